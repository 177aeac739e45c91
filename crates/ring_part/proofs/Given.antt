-- A taken buffer is given back with written bytes.
use Rattle.std.proofs.Common.{◌≡◌, ℕ, ◌+◌, ◌*◌, ◌%◌, ◌^◌, ◌<◌, ◌≤◌, List, [], ◌∷◌, ◌++◌, length, true, false, IsTrue, inl, inr, refl, sym, ◌∙◌, ap, subst, arith, append_assoc, length-append}
use Rattle.std.specs.Prelude.{All, ◌==◌}
use Rattle.std.proofs.Math.Nat.{mod-lt}
use Rattle.std.proofs.lemmas.Bool.{false≢true, cases_order, or_left, eq-eqb}
use Rattle.std.proofs.lemmas.List.{map-append}
use Rattle.std.proofs.lemmas.List.Elements.{All-cons, All-head, All-tail, All-append, All-push}
use Rattle.byteorder.specs.Endian.{little_bytes}
use Rattle.vt_types.specs.Limits.{LONGEST_BUFFER}
use Rattle.guest_mem.specs.Memory.{part as bytes_at, put_at, Apart}
use Rattle.guest_mem.proofs.Ranges.{Apart-swapped, Apart-inside}
use Rattle.vq_common.specs.declared.chain.RingCfg.{RingCfg}
use Rattle.vq_common.specs.Chain.{ChainValue}
use Rattle.vt_types.specs.Device.{BLOCK_LEN}
use Rattle.vt_layout.specs.QueueBlock.{driver_area, device_area, data_address}
use Rattle.vq_common.specs.Piece.{scatter}
use Rattle.vq_common.specs.Queue.{DeviceQueue, DriverQueue, Given}
use Rattle.vq_split_dev.specs.Give.{split_given, split_given_memory, split_signals, next_used}
use Rattle.vq_posted.specs.Free.{is_distinct, is_in}
use Rattle.vq_split_pair.specs.Pair.{IsInMemory, room_of}
use Rattle.abstract_devices.specs.World.{AbstractQueue}
use Rattle.abstract_devices.specs.Serve.{signals}
use Rattle.memory_port.specs.Puts.{Hold}
use Rattle.memory_port.proofs.PutLaws.{hold-same, all_in-weaker}
use Rattle.ring_part.specs.Held.{Held, UsedHeld, CanStand, FitsRoom, HasThese, held_of, all_held, used_of, chain_of_held}
use Rattle.ring_part.specs.Laws.{ChangedBy, give_puts}
use Rattle.ring_part.specs.RingPuts.{element_bytes, written_at, all_puts, entry_at, entry_puts, element_at, element_puts, index_puts, asks_put, next}
use Rattle.ring_part.specs.RingPart.{RingPart}
use Rattle.ring_part.proofs.Records.{locations_of, in_use, distinct_in}
use Rattle.vq_posted.proofs.Members.{middle_apart}
use Rattle.ring_part.proofs.Orders.{named_first_behind}
use Rattle.ring_part.specs.Locations.{Owns, AtData, OwnedBy}
use Rattle.ring_part.proofs.Owned.{owned_apart, owned_areas, owned_inside}
use Rattle.ring_part.proofs.PutLocations.{all_owned, entries_in, asks_in}
use Rattle.ring_part.proofs.Lists.{all_front, all_back, puts_parts, puts-append, locations-append, in_front, in_back, in_wider}
use Rattle.ring_part.proofs.Elements.{written_owned, elements_kinds, elements-append}
use Rattle.ring_part.proofs.Scatter.{scatter_is_put}
use Rattle.ring_part.proofs.Slots.{different_slots}
use Rattle.ring_part.proofs.Signals.{asked, asked_is}
use Rattle.ring_part.proofs.ThreePuts.{three_puts, ApartThree, CanPut, length-three, three_same, three_written, three_element, three_index}
use Rattle.ring_part.proofs.Facts as facts

module _ {mem : List ℕ} {a : AbstractQueue} {d : DeviceQueue} {q : DriverQueue} {used : List UsedHeld} (before : List Held) (h : Held) (after waiting : List Held) (written : List ℕ)
    (part : RingPart mem a d q used (before ++ h ∷ after) waiting) (few : length written ≤ room_of h.buffer) where
  abbrev u : UsedHeld
  u = record { held = h; written = written }

  -- the lists before and after
  lists_before : all_held used (before ++ h ∷ after) waiting ≡ held_of used ++ (before ++ h ∷ (after ++ waiting))
  lists_before = ap (λ hs. held_of used ++ hs) (append_assoc before (h ∷ after) waiting)

  lists_after : held_of used ++ h ∷ (before ++ (after ++ waiting)) ≡ all_held (used ++ u ∷ []) (before ++ after) waiting
  lists_after =
      ap (λ hs. held_of used ++ h ∷ hs) (sym (append_assoc before after waiting))
      ∙ sym (append_assoc (held_of used) (h ∷ []) ((before ++ after) ++ waiting))
      ∙ ap (λ hs. hs ++ ((before ++ after) ++ waiting)) (sym (map-append (λ (u : UsedHeld). u.held) used (u ∷ [])))

  -- the driver's record may name it behind the used ones
  has_named : HasThese q.unreaped (held_of used ++ h ∷ (before ++ (after ++ waiting)))
  has_named =
      named_first_behind q.unreaped (held_of used) before h (after ++ waiting) (subst (λ hs. IsTrue (is_distinct (locations_of hs))) lists_before (facts.distinct part))
      (subst (HasThese q.unreaped) lists_before part.buffers.these)

  -- the ring can hold each
  can_used : All (CanStand q.cfg) (held_of used)
  can_used = all_front (CanStand q.cfg) (held_of used) ((before ++ h ∷ after) ++ waiting) part.buffers.each

  can_others : All (CanStand q.cfg) (before ++ h ∷ (after ++ waiting))
  can_others = all_back (CanStand q.cfg) (held_of used) (before ++ h ∷ (after ++ waiting)) (subst (All (CanStand q.cfg)) lists_before part.buffers.each)

  can_here : CanStand q.cfg h
  can_here = All-head (CanStand q.cfg) h (after ++ waiting) (all_back (CanStand q.cfg) before (h ∷ (after ++ waiting)) can_others)

  can_rest : All (CanStand q.cfg) (before ++ (after ++ waiting))
  can_rest =
      All-append (CanStand q.cfg) before (after ++ waiting) (all_front (CanStand q.cfg) before (h ∷ (after ++ waiting)) can_others)
      (All-tail (CanStand q.cfg) h (after ++ waiting) (all_back (CanStand q.cfg) before (h ∷ (after ++ waiting)) can_others))

  -- where its bytes, its element and the used index go, and memory then
  abbrev at_written : ℕ
  at_written = written_at q.base h

  abbrev at_element : ℕ
  at_element = element_at q.base q.cfg.size d.used

  abbrev at_index : ℕ
  at_index = device_area q.base + 2

  abbrev memory : List ℕ
  memory = three_puts mem at_written written at_element (element_bytes h.head (length written)) at_index (little_bytes 2 (next d.used))

  -- no other buffer has its head
  others_differ : (k : ℕ) → is_in k (locations_of (held_of used ++ (before ++ (after ++ waiting)))) ≡ true → h.head ≡ k → ⊥
  others_differ k m same =
      let mine : List ℕ = h.head ∷ h.others in
      let front : List ℕ = locations_of (held_of used) in
      let back : List ℕ = locations_of (before ++ (after ++ waiting)) in
      let apart : IsTrue (is_distinct (front ++ (mine ++ back)))
      = subst (λ ns. IsTrue (is_distinct ns)) (locations-append (held_of used) (h ∷ (before ++ (after ++ waiting)))) (distinct_in q.unreaped (held_of used ++ h ∷ (before ++ (after ++ waiting))) has_named part.queue.order.distinct)
      in
      let none : is_in h.head (front ++ back) ≡ false = middle_apart front mine back apart h.head (or_left (h.head == h.head) (is_in h.head h.others) (eq-eqb h.head h.head refl)) in
      false≢true (sym none ∙ ap (is_in h.head) (sym (locations-append (held_of used) (before ++ (after ++ waiting)))) ∙ ap (λ j. is_in j (locations_of (held_of used ++ (before ++ (after ++ waiting))))) same ∙ m)

  -- every descriptor that is in use is low
  low_in : (k : ℕ) → is_in k (locations_of (held_of used ++ h ∷ (before ++ (after ++ waiting)))) ≡ true → k < 1024
  low_in k m =
      let less : k < q.cfg.size
      = facts.below_record part k (in_use q.unreaped (held_of used ++ h ∷ (before ++ (after ++ waiting))) has_named k ∙ m)
      in
      let low : q.cfg.size ≤ 1024 = facts.size_low part in
      omega arith

  -- locations apart from all three
  abbrev Away : ℕ → ℕ → Type 0
  Away = ApartThree at_written (length written) at_element at_index

  own : Owns q.base h.head at_written (length written)
  own = written_owned q.cfg q.base h written can_here few

  head_low : h.head < 1024
  head_low =
      low_in h.head (in_back h.head (held_of used) (h ∷ (before ++ (after ++ waiting))) (or_left (h.head == h.head) (is_in h.head (h.others ++ locations_of (before ++ (after ++ waiting)))) (eq-eqb h.head h.head refl)))

  slot_low : (n : ℕ) → n % q.cfg.size < q.cfg.size
  slot_low n = mod-lt n (facts.size_some part)

  size_low : q.cfg.size ≤ 1024
  size_low = facts.size_low part

  can : CanPut mem at_written written at_element (element_bytes h.head (length written)) at_index (little_bytes 2 (next d.used))
  can =
      let block = owned_inside q.base h.head at_written (length written) head_low own in
      let slot = slot_low d.used in
      record {
        eight = refl;
        two = refl;
        written_inside = omega (arith, part.block.inside, block.ends);
        element_inside = omega (arith, part.block.inside, size_low);
        index_inside = omega (arith, part.block.inside);
        element_written = Apart-swapped at_written (length written) at_element 8 (owned_areas q.base h.head at_written (length written) at_element 8 head_low (omega arith) (omega (arith, size_low)) own);
        index_written = Apart-swapped at_written (length written) at_index 2 (owned_areas q.base h.head at_written (length written) at_index 2 head_low (omega arith) (omega arith) own);
        index_element = inl (omega arith);
      }

  same : (b n : ℕ) → Away b n → bytes_at memory b n ≡ bytes_at mem b n
  same = three_same mem at_written written at_element (element_bytes h.head (length written)) at_index (little_bytes 2 (next d.used)) can

  -- the driver area is apart, and so are other elements, and what belongs to another descriptor
  driver_kind : (b n : ℕ) → driver_area q.base ≤ b → b + n ≤ device_area q.base → Away b n
  driver_kind b n starts ends =
      record { written = owned_areas q.base h.head at_written (length written) b n head_low (omega arith) (omega arith) own; element = inr (omega arith); index = inr (omega arith) }

  element_kind : (n : ℕ) → (n % q.cfg.size ≡ d.used % q.cfg.size → ⊥) → Away (element_at q.base q.cfg.size n) 8
  element_kind n other =
      let slot = slot_low n in
      record {
        written = owned_areas q.base h.head at_written (length written) (element_at q.base q.cfg.size n) 8 head_low (omega arith) (omega (arith, size_low)) own;
        element = elim (cases_order (n % q.cfg.size) (d.used % q.cfg.size)) [
          | inl equal ↦ absurd (other equal)
          | inr order ↦ elim order [ inl less ↦ inr (omega arith) | inr more ↦ inl (omega arith) ]
        ];
        index = inl (omega arith);
      }

  owned_kind : (k b n : ℕ) → k < 1024 → (h.head ≡ k → ⊥) → Owns q.base k b n → Away b n
  owned_kind k b n low other owns =
      let slot = slot_low d.used in
      record {
        written = owned_apart q.base h.head k at_written (length written) b n head_low low other own owns;
        element = Apart-swapped b n at_element 8 (owned_areas q.base k b n at_element 8 low (omega arith) (omega (arith, size_low)) owns);
        index = Apart-swapped b n at_index 2 (owned_areas q.base k b n at_index 2 low (omega arith) (omega arith) owns);
      }

  abbrev rest : List Held
  rest = before ++ (after ++ waiting)

  rest_kind : (b n : ℕ) → OwnedBy q.base (locations_of (held_of used ++ rest)) b n → Away b n
  rest_kind b n (k, m, owns) =
      let all : is_in k (locations_of (held_of used ++ h ∷ rest)) ≡ true = in_wider k (held_of used) h rest m in
      owned_kind k b n (low_in k all) (others_differ k m) owns

  -- what stands once it is given back
  indices_after : Hold (index_puts q.cfg q.base a.mode q.available (next d.used) q.used) memory
  indices_after =
      let (index, (element_index, asks)) = part.indices in (
        same (driver_area q.base + 2) 2 (driver_kind (driver_area q.base + 2) 2 (omega arith) (omega arith)) ∙ index,
        (
          three_index mem at_written written at_element (element_bytes h.head (length written)) at_index (little_bytes 2 (next d.used)) can,
          hold-same Away mem memory same (asks_put q.cfg q.base a.mode q.used ∷ [])
              (asks_in Away q.cfg q.base a.mode q.used (driver_kind (driver_area q.base + (4 + 2 * q.cfg.size)) 2 (omega arith) (omega (arith, size_low))) (driver_kind (driver_area q.base) 2 (omega arith) (omega arith))) asks,
        ),
      )

  entries_after : Hold (entry_puts q.base q.cfg.size d.taken waiting) memory
  entries_after =
      hold-same Away mem memory same (entry_puts q.base q.cfg.size d.taken waiting)
      (entries_in Away q.base q.cfg.size d.taken waiting (facts.taken_low part)
      (λ i less. let slot = slot_low ((d.taken + i) % 2 ^ 16) in driver_kind (entry_at q.base q.cfg.size ((d.taken + i) % 2 ^ 16)) 2 (omega arith) (omega (arith, size_low)))) part.entries

  elements_after : Hold (element_puts q.base q.cfg.size q.used (used ++ u ∷ [])) memory
  elements_after =
      elements-append q.base q.cfg.size q.used used (u ∷ []) memory part.queue.used
      (hold-same Away mem memory same (element_puts q.base q.cfg.size q.used used)
      (elements_kinds Away q.cfg q.base q.cfg.size q.used used part.queue.used can_used part.buffers.fit
      (λ i less. element_kind ((q.used + i) % 2 ^ 16)
      (λ e. different_slots q.cfg.size part.block.size q.used i (length used) less (omega (arith, facts.lengths_fit part, length-append before (h ∷ after))) (e ∙ ap (λ n. n % q.cfg.size) part.counts.to_reap)))
      (λ b n (k, m, owns). rest_kind b n (k, in_front k (held_of used) rest m, owns))) part.elements)
      (subst (λ n. Hold (element_puts q.base q.cfg.size n (u ∷ [])) memory) part.counts.to_reap (
        three_element mem at_written written at_element (element_bytes h.head (length written)) at_index (little_bytes 2 (next d.used)) can,
        (three_written mem at_written written at_element (element_bytes h.head (length written)) at_index (little_bytes 2 (next d.used)) can, tt),
      ))

  puts_after : Hold (all_puts q.cfg q.base ((before ++ after) ++ waiting)) memory
  puts_after =
      let (taken_puts, waiting_puts) = puts_parts q.cfg q.base (before ++ h ∷ after) waiting mem part.puts in
      let (before_puts, here_puts) = puts_parts q.cfg q.base before (h ∷ after) mem taken_puts in
      let (mine_puts, after_puts) = puts_parts q.cfg q.base (h ∷ []) after mem here_puts in
      let whole : Hold (all_puts q.cfg q.base rest) mem
      = puts-append q.cfg q.base before (after ++ waiting) mem before_puts (puts-append q.cfg q.base after waiting mem after_puts waiting_puts)
      in
      subst (λ hs. Hold (all_puts q.cfg q.base hs) memory) (sym (append_assoc before after waiting))
      (hold-same Away mem memory same (all_puts q.cfg q.base rest)
      (all_in-weaker (OwnedBy q.base (locations_of rest)) Away (λ b n (k, m, owns). rest_kind b n (k, in_back k (held_of used) rest m, owns)) (all_puts q.cfg q.base rest) (all_owned q.cfg q.base rest can_rest)) whole)

  -- the device writes just these three
  base_is : d.cfg.device ≡ device_area q.base
  base_is = ap (λ (c : RingCfg). c.device) part.same.ring ∙ part.block.in_block.device

  size_is : d.cfg.size ≡ q.cfg.size
  size_is = ap (λ (c : RingCfg). c.size) part.same.ring

  abbrev chain : ChainValue
  chain = chain_of_held q.base h

  abbrev pub result : Given
  result = split_given (scatter mem chain.pieces written) d chain (length written)

  scattered : scatter mem chain.pieces written ≡ put_at mem at_written written
  scattered =
      let block = owned_inside q.base h.head (data_address q.base h.head) LONGEST_BUFFER head_low (AtData (omega arith) (omega arith)) in
      let total = can_here.postable.total in
      scatter_is_put mem (data_address q.base h.head) h.buffer.readable_pieces h.buffer.lengths written few (omega (arith, part.block.inside, block.ends, total))
      ∙ ap (λ n. put_at mem (data_address q.base h.head + n) written) (sym can_here.postable.readable)

  memory_is : result.memory ≡ memory
  memory_is =
      ap (λ m. split_given_memory m d h.head (length written)) scattered
      ∙ ap (λ p. put_at (put_at (put_at mem at_written written) (p + (4 + 8 * (d.used % d.cfg.size))) (element_bytes h.head (length written))) (p + 2) (little_bytes 2 (next_used d))) base_is
      ∙ ap (λ n. put_at (put_at (put_at mem at_written written) (device_area q.base + (4 + 8 * (d.used % n))) (element_bytes h.head (length written))) (device_area q.base + 2) (little_bytes 2 (next_used d))) size_is

  memory_long : length memory ≡ length mem
  memory_long = length-three mem at_written written at_element (element_bytes h.head (length written)) at_index (little_bytes 2 (next d.used)) can

  given_memory : RingPart memory (record a { used = a.used ++ used_of u ∷ [] }) result.queue q (used ++ u ∷ []) (before ++ after) waiting
  given_memory =
      let used_before : d.used ≡ (q.used + length used) % 2 ^ 16 = part.counts.to_reap in
      let taken_before : d.taken ≡ (d.used + length (before ++ h ∷ after)) % 2 ^ 16 = part.counts.in_flight in
      record {
        same = part.same;
        block = subst (λ n. IsInMemory n q.cfg q.base) (sym memory_long) part.block;
        queue = part.queue;
        buffers = record {
          these = subst (HasThese q.unreaped) lists_after has_named;
          each = subst (All (CanStand q.cfg)) lists_after (All-append (CanStand q.cfg) (held_of used) (h ∷ rest) can_used (All-cons (CanStand q.cfg) h rest can_here can_rest));
          fit = All-push FitsRoom used u part.buffers.fit (record { room = few });
        };
        lists = record { available = part.lists.available; finished = ap (λ us. us ++ used_of u ∷ []) part.lists.finished ∙ sym (map-append used_of used (u ∷ [])) };
        counts = record {
          to_reap = omega (arith, used_before, length-append used (u ∷ []));
          in_flight = omega (arith, taken_before, length-append before (h ∷ after), length-append before after);
          to_take = part.counts.to_take;
        };
        indices = indices_after;
        entries = entries_after;
        elements = elements_after;
        puts = puts_after;
      }

  -- the ring part once it is given back
  pub given : RingPart result.memory (record a { used = a.used ++ used_of u ∷ [] }) result.queue q (used ++ u ∷ []) (before ++ after) waiting
  given = subst (λ m. RingPart m (record a { used = a.used ++ used_of u ∷ [] }) result.queue q (used ++ u ∷ []) (before ++ after) waiting) (sym memory_is) given_memory

  -- both halves signal, or neither
  pub signalled : split_signals result.memory d ≡ signals a.mode a.used
  signalled =
      let few : length used ≤ 1024 = omega (arith, facts.lengths_fit part, size_low) in
      ap (λ m. split_signals m d) memory_is
      ∙ ap (λ c. asked memory c c.driver d.used) part.same.ring
      ∙ ap (λ p. asked memory q.cfg p d.used) part.block.in_block.driver
      ∙ asked_is memory q.cfg q.base q.used d.used a.mode used part.same.mode part.queue.used few part.counts.to_reap indices_after.1.1
      ∙ ap (signals a.mode) (sym part.lists.finished)

  -- memory keeps its length
  pub given_length : length result.memory ≡ length mem
  given_length = ap length memory_is ∙ memory_long

  -- the driver area stays
  pub given_driver : (b n : ℕ) → driver_area q.base ≤ b → b + n ≤ device_area q.base → bytes_at result.memory b n ≡ bytes_at mem b n
  given_driver b n starts ends = ap (λ m. bytes_at m b n) memory_is ∙ same b n (driver_kind b n starts ends)

  -- so does what belongs to another descriptor
  pub given_owned : (k b n : ℕ) → k < 1024 → (h.head ≡ k → ⊥) → Owns q.base k b n → bytes_at result.memory b n ≡ bytes_at mem b n
  given_owned k b n low other owns = ap (λ m. bytes_at m b n) memory_is ∙ same b n (owned_kind k b n low other owns)

  -- and all that is apart from the block
  pub given_elsewhere : (b n : ℕ) → Apart q.base BLOCK_LEN b n → bytes_at result.memory b n ≡ bytes_at mem b n
  given_elsewhere b n apart =
      let block = owned_inside q.base h.head at_written (length written) head_low own in
      let slot = slot_low d.used in
      ap (λ m. bytes_at m b n) memory_is
      ∙ same b n
      (record {
        written = Apart-inside q.base BLOCK_LEN b n at_written (length written) block.starts block.ends apart;
        element = Apart-inside q.base BLOCK_LEN b n at_element 8 (omega arith) (omega (arith, size_low)) apart;
        index = Apart-inside q.base BLOCK_LEN b n at_index 2 (omega arith) (omega arith) apart;
      })

  -- the device writes nowhere else
  pub given_changes : ChangedBy (give_puts q.base q.cfg.size d.used u) mem result.memory
  given_changes =
      record {
        long = given_length;
        others = λ b n (from_element, (from_written, (from_index, _))).
            ap (λ m. bytes_at m b n) memory_is
            ∙ same b n
            (record {
              written = Apart-swapped b n at_written (length written) from_written;
              element = Apart-swapped b n at_element 8 from_element;
              index = Apart-swapped b n at_index 2 from_index;
            });
      }
