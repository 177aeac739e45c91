-- A reap over guest memory: what it answers, and what it leaves.
use Rattle.std.proofs.Common.{◌≡◌, ℕ, zero, suc, ◌+◌, ◌%◌, ◌<◌, ◌≤◌, List, [], ◌∷◌, length, drop, map, Bool, true, false, Option, Some, None, refl, sym, ◌∙◌, ap, subst, arith, inl, inr}
use Rattle.std.specs.Prelude.{◌==◌, nat_le, replicate, if◌then◌else◌}
use Rattle.std.proofs.Math.Nat.{mod-lt}
use Rattle.std.proofs.lemmas.Bool.{cases_Bool, cond-true, cond-false, eq-eqb, ne_eqb, le-leb}
use Rattle.byteorder.specs.Endian.{little_bytes, little_number}
use Rattle.vt_types.specs.Limits.{LONGEST_BUFFER}
use Rattle.guest_mem.specs.Memory.{part as bytes_at, put_at, le16_at}
use Rattle.guest_mem.proofs.Parts.{length-part, length-put_at, part-put_at_apart}
use Rattle.guest_mem.proofs.Ranges.{Apart-swapped}
use Rattle.vt_types.specs.Access.{AccessValue, Get}
use Rattle.vt_types.specs.Program.{Program, Do, Mark, End, run}
use Rattle.port_access.specs.Accesses.{bytes_or_zeros, mark_unless}
use Rattle.vt_layout.specs.QueueBlock.{data_address, device_area}
use Rattle.vq_common.specs.Queue.{DeviceQueue, DriverQueue, Unreaped, ReapedValue, unreaped_with}
use Rattle.vq_posted.specs.Reap.{reap_bytes, reap_end, reap_nothing}
use Rattle.vq_split_drv.specs.Reap.{reap_element, split_reap_program, split_reaped, used_event_put}
use Rattle.memory_port.specs.MemoryTable.{memory_table}
use Rattle.memory_port.proofs.MemoryLaws.{run-get, run-put}
use Rattle.abstract_devices.specs.World.{AbstractQueue}
use Rattle.ring_part.specs.Held.{Held, UsedHeld, unreaped_of, used_of}
use Rattle.ring_part.specs.Laws.{ChangedBy, reap_puts}
use Rattle.ring_part.specs.RingPart.{RingPart}
use Rattle.ring_part.specs.RingPuts.{element_at, event_at, next}
use Rattle.ring_part.proofs.Facts as facts
use Rattle.ring_part.proofs.Reaped.{Finds, finds, reap_none, reaped, reaped_asking}

-- what is answered of a used buffer
abbrev pub reaped_of : UsedHeld → ReapedValue
reaped_of u = record { tag = u.held.buffer.tag; len = length u.written; bytes = u.written }

-- memory once the driver has asked for the next signal, where it does
abbrev pub asked_memory : List ℕ → DriverQueue → List ℕ
asked_memory mem q = if q.cfg.event_idx then put_at mem (event_at q.base q.cfg.size) (little_bytes 2 (next q.used)) else mem

abbrev runs : {X : Type 0} → Program X → List ℕ → X × List ℕ
runs program mem = run memory_table (λ m. m) program mem

whole : (count : ℕ) (bytes : List ℕ) → length bytes ≡ count → bytes_or_zeros count bytes ≡ bytes
whole count bytes long = cond-true (length bytes == count) bytes (replicate count 0) (eq-eqb (length bytes) count long)

marked : {X : Type 0} (b : Bool) (program : Program X) (mem : List ℕ) → runs (mark_unless b program) mem ≡ runs program mem
marked true program mem = refl
marked false program mem = refl

none_of : (bytes : List ℕ) → length bytes ≡ 0 → bytes ≡ []
none_of [] none = refl
none_of (b ∷ bytes) none = absurd (omega arith)

-- the next signal is asked for where it is due
run-end : (q : DriverQueue) (u : Unreaped) (r : ReapedValue) (mem : List ℕ) → event_at q.base q.cfg.size + 2 ≤ length mem
    → runs (reap_end split_reaped used_event_put q u r) mem ≡ ((Some r, split_reaped q u), asked_memory mem q)
run-end q u r mem fits =
    let after : DriverQueue = split_reaped q u in
    let x : Option ReapedValue × DriverQueue = (Some r, after) in
    let asks : Program (Option ReapedValue × DriverQueue) = Do (used_event_put after) (λ _ _. Mark (End x)) in
    let mem2 : List ℕ = put_at mem (event_at q.base q.cfg.size) (little_bytes 2 (next q.used)) in
    elim (cases_Bool q.cfg.event_idx) [
      | inl t ↦ ap (λ (p : Program (Option ReapedValue × DriverQueue)). runs p mem) (cond-true q.cfg.event_idx asks (End x) t)
          ∙ run-put (event_at q.base q.cfg.size) (little_bytes 2 (next q.used)) (λ _ _. Mark (End x)) mem fits
          ∙ ap (λ (m : List ℕ). (x, m)) (sym (cond-true q.cfg.event_idx mem2 mem t))
      | inr f ↦ ap (λ (p : Program (Option ReapedValue × DriverQueue)). runs p mem) (cond-false q.cfg.event_idx asks (End x) f)
          ∙ ap (λ (m : List ℕ). (x, m)) (sym (cond-false q.cfg.event_idx mem2 mem f))
    ]

-- the written bytes are got where there are any
run-bytes : (q : DriverQueue) (u : Unreaped) (count : ℕ) (bytes mem : List ℕ) → data_address q.base u.id + u.readable + count ≤ length mem → length bytes ≡ count → bytes_at mem (data_address q.base u.id + u.readable) count ≡ bytes
    → runs (reap_bytes split_reaped used_event_put q u count) mem ≡ runs (reap_end split_reaped used_event_put q u (record { tag = u.tag; len = count; bytes = bytes })) mem
run-bytes q u zero bytes mem inside long is = ap (λ (ys : List ℕ). runs (reap_end split_reaped used_event_put q u (record { tag = u.tag; len = 0; bytes = ys })) mem) (sym (none_of bytes long))
run-bytes q u (suc n) bytes mem inside long is =
    let location : ℕ = data_address q.base u.id + u.readable in
    let ended : List ℕ → Program (Option ReapedValue × DriverQueue) = λ ys. reap_end split_reaped used_event_put q u (record { tag = u.tag; len = suc n; bytes = ys }) in
    let got : List ℕ = bytes_at mem location (suc n) in
    ap (λ (p : Program (Option ReapedValue × DriverQueue)). runs p mem)
    (cond-false (suc n == 0) (reap_end split_reaped used_event_put q u (record { tag = u.tag; len = 0; bytes = [] })) (Do (Get location (suc n)) (λ _ ys. ended (bytes_or_zeros (suc n) ys))) (ne_eqb (suc n) 0 (λ e. absurd (omega arith))))
    ∙ run-get location (suc n) (λ _ ys. ended (bytes_or_zeros (suc n) ys)) mem inside
    ∙ ap (λ (ys : List ℕ). runs (ended ys) mem) (whole (suc n) got (length-part mem location (suc n) inside) ∙ is)

module _ {mem : List ℕ} {a : AbstractQueue} {d : DeviceQueue} {q : DriverQueue} {used : List UsedHeld} {taken waiting : List Held} (part : RingPart mem a d q used taken waiting) where
  abbrev index_at : ℕ
  index_at = device_area q.base + 2

  abbrev found : Program (Option ReapedValue × DriverQueue)
  found =
      mark_unless q.cfg.event_idx (Do (Get (element_at q.base q.cfg.size q.used) 8) (λ _ element.
      reap_element q (little_number 4 (drop 4 (bytes_or_zeros 8 element))) (unreaped_with (little_number 4 (bytes_or_zeros 8 element)) q.unreaped)))

  inside : q.base + 0x1000000 ≤ length mem
  inside = part.block.inside

  -- the used index is got first
  index_got : runs (split_reap_program q) mem ≡ runs (if le16_at mem index_at == q.used then Mark (End (None, q)) else found) mem
  index_got =
      let fits : index_at + 2 ≤ length mem = omega (arith, inside) in
      run-get index_at 2 (λ _ bytes. if little_number 2 (bytes_or_zeros 2 bytes) == q.used then Mark (End (None, q)) else found) mem fits
      ∙ ap (λ (bytes : List ℕ). runs (if little_number 2 bytes == q.used then Mark (End (None, q)) else found) mem) (whole 2 (bytes_at mem index_at 2) (length-part mem index_at 2 fits))

-- nothing was used
pub run-reap_none : {mem : List ℕ} {a : AbstractQueue} {d : DeviceQueue} {q : DriverQueue} {taken waiting : List Held} → RingPart mem a d q [] taken waiting → runs (split_reap_program q) mem ≡ ((None, q), mem)
run-reap_none {mem} {a} {d} {q} part =
    index_got part ∙ ap (λ (p : Program (Option ReapedValue × DriverQueue)). runs p mem) (cond-true (le16_at mem (device_area q.base + 2) == q.used) (Mark (End (None, q))) (found part) (eq-eqb _ _ (reap_none part)))

module _ {mem : List ℕ} {a : AbstractQueue} {d : DeviceQueue} {q : DriverQueue} {u : UsedHeld} {used : List UsedHeld} {taken waiting : List Held} (part : RingPart mem a d q (u ∷ used) taken waiting) where
  slot_low : q.used % q.cfg.size < q.cfg.size
  slot_low = mod-lt q.used (facts.size_some part)

  -- the first used buffer is answered
  pub run-reap : runs (split_reap_program q) mem ≡ ((Some (reaped_of u), split_reaped q (unreaped_of u.held)), asked_memory mem q)
  run-reap =
      let f : Finds mem d q u = finds part in
      let v : Unreaped = unreaped_of u.held in
      let location : ℕ = element_at q.base q.cfg.size q.used in
      let element : List ℕ = bytes_at mem location 8 in
      let fits : location + 8 ≤ length mem = omega (arith, part.block.inside, slot_low, facts.size_low part) in
      let event : event_at q.base q.cfg.size + 2 ≤ length mem = omega (arith, part.block.inside, facts.size_low part) in
      let named : List ℕ → Program (Option ReapedValue × DriverQueue) = λ bytes. reap_element q (little_number 4 (drop 4 bytes)) (unreaped_with (little_number 4 bytes) q.unreaped) in
      let by : Program (Option ReapedValue × DriverQueue) → (Option ReapedValue × DriverQueue) × List ℕ = λ p. runs p mem in
      index_got part
      ∙ ap by (cond-false (le16_at mem (device_area q.base + 2) == q.used) (Mark (End (None, q))) (found part) (ne_eqb _ _ f.index))
      ∙ marked q.cfg.event_idx (Do (Get location 8) (λ _ bytes. named (bytes_or_zeros 8 bytes))) mem
      ∙ run-get location 8 (λ _ bytes. named (bytes_or_zeros 8 bytes)) mem fits
      ∙ ap (λ (bytes : List ℕ). runs (named bytes) mem) (whole 8 element (length-part mem location 8 fits))
      ∙ ap (λ (n : ℕ). runs (reap_element q n (unreaped_with (little_number 4 element) q.unreaped)) mem) f.len
      ∙ ap (λ (o : Option Unreaped). runs (reap_element q (length u.written) o) mem) (ap (λ (n : ℕ). unreaped_with n q.unreaped) f.id ∙ f.found)
      ∙ ap by (cond-true (nat_le (length u.written) LONGEST_BUFFER) (reap_bytes split_reaped used_event_put q v (length u.written)) (reap_nothing q) (le-leb (length u.written) LONGEST_BUFFER f.few))
      ∙ run-bytes q v (length u.written) u.written mem f.inside refl f.bytes
      ∙ run-end q v (reaped_of u) mem event

  -- what is left is the ring part without it
  pub reaped_all : RingPart (asked_memory mem q) (record a { used = map used_of used }) d (split_reaped q (unreaped_of u.held)) used taken waiting
  reaped_all =
      let P : List ℕ → Type 0 = λ m. RingPart m (record a { used = map used_of used }) d (split_reaped q (unreaped_of u.held)) used taken waiting in
      let mem2 : List ℕ = put_at mem (event_at q.base q.cfg.size) (little_bytes 2 (next q.used)) in
      elim (cases_Bool q.cfg.event_idx) [
        | inl t ↦ subst P (sym (cond-true q.cfg.event_idx mem2 mem t)) (reaped_asking part t)
        | inr f ↦ subst P (sym (cond-false q.cfg.event_idx mem2 mem f)) (reaped part f)
      ]

  -- nothing is changed but where it asks for the next signal
  pub reap_changes : ChangedBy (reap_puts (split_reaped q (unreaped_of u.held))) mem (asked_memory mem q)
  reap_changes =
      let after : DriverQueue = split_reaped q (unreaped_of u.held) in
      let bytes : List ℕ = little_bytes 2 (next q.used) in
      let mem2 : List ℕ = put_at mem (event_at q.base q.cfg.size) bytes in
      let event : event_at q.base q.cfg.size + 2 ≤ length mem = omega (arith, part.block.inside, facts.size_low part) in
      elim (cases_Bool q.cfg.event_idx) [
        | inl t ↦ subst (λ (puts : List AccessValue). ChangedBy puts mem (asked_memory mem q)) (sym (cond-true q.cfg.event_idx (used_event_put after ∷ []) [] t))
            (subst (ChangedBy (used_event_put after ∷ []) mem) (sym (cond-true q.cfg.event_idx mem2 mem t))
            (record {
              long = length-put_at mem (event_at q.base q.cfg.size) bytes event;
              others = λ b n (apart, _). part-put_at_apart mem (event_at q.base q.cfg.size) bytes b n event (Apart-swapped b n (event_at q.base q.cfg.size) 2 apart);
            }))
        | inr f ↦ subst (λ (puts : List AccessValue). ChangedBy puts mem (asked_memory mem q)) (sym (cond-false q.cfg.event_idx (used_event_put after ∷ []) [] f))
            (subst (ChangedBy [] mem) (sym (cond-false q.cfg.event_idx mem2 mem f)) (record { long = refl; others = λ b n _. refl }))
      ]
