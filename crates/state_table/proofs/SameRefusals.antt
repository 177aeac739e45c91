-- Of two views that are the same the state table refuses the same operations, for the same reasons.
use Rattle.std.proofs.Common.{◌≡◌, ℕ, ◌+◌, List, [], ◌∷◌, ◌++◌, length, Bool, not, ◌&&◌, ◌||◌, Option, Some, None, refl, ◌∙◌, ap}
use Rattle.std.specs.Prelude.{◌==◌, nat_le, nat_lt, sum, is_some}
use Rattle.vt_types.specs.declared.operation.Field.{Field}
use Rattle.vt_types.specs.declared.operation.Field.TheVariants.{Capacity, SegMax, BlkSize, Writeback, Mac, NetStatus, Cols, Rows, Ports, Emerg}
use Rattle.vt_types.specs.declared.reply.Why.{Why}
use Rattle.vt_types.specs.declared.reply.Why.TheVariants as why
use Rattle.vt_types.specs.Features.{INDIRECT_DESC, EVENT_IDX, BLK_CONFIG_WCE}
use Rattle.vt_types.specs.Operation.{Operation, PostedBuffer, Probe, Reset, Features, GetStatus, Accept, SetStatus, SetQueue, Post, Notify, Reap, Arm, Disarm, ReadConfig, WriteConfig, IrqQueues, IrqConfig}
use Rattle.vt_types.specs.Limits.{LONGEST_BUFFER}
use Rattle.vt_types.specs.Status.{FEATURES_OK}
use Rattle.vq_common.specs.Queue.{is_queue_size, slots_of}
use Rattle.dev_status.specs.Status.{has_bits}
use Rattle.state_table.specs.Known.{Known, KnownQueue, known_queue}
use Rattle.vt_types.specs.Limits.{LONGEST_BUFFER}
use Rattle.state_table.specs.Refusal.{AGREED, DRIVEN, RUNNING, buffer_tests, first_of, greatest_value, is_agreed, is_full, is_queue_set, is_tag_used, is_too_large, is_writable, lacks_queue, mode_tests, queue_tests, refusal_of, status_before}
use Rattle.state_table.specs.Same.{SameKnown, SameQueues}

-- tests are the same where each is
same_cons : {b c : Bool} {xs ys : List (Bool × Why)} (reason : Why) → b ≡ c → xs ≡ ys → (b, reason) ∷ xs ≡ (c, reason) ∷ ys
same_cons {b} {c} {xs} {ys} reason same rest = ap (λ (x : Bool). (x, reason) ∷ xs) same ∙ ap (λ (zs : List (Bool × Why)). (c, reason) ∷ zs) rest

-- a reason for one test alone
same_one : (b c : Bool) (reason : Why) → b ≡ c → first_of ((b, reason) ∷ []) ≡ first_of ((c, reason) ∷ [])
same_one b c reason same = ap (λ (x : Bool). first_of ((x, reason) ∷ [])) same

-- the tests on a queue
is_set_same : (x y : Option KnownQueue) → SameQueues x y → is_some x ≡ is_some y
is_set_same None None same = refl
is_set_same None (Some y) same = absurd same
is_set_same (Some x) None same = absurd same
is_set_same (Some x) (Some y) same = refl

tag_same : (x y : Option KnownQueue) (b : PostedBuffer) → SameQueues x y → is_tag_used x b ≡ is_tag_used y b
tag_same None None b same = refl
tag_same None (Some y) b same = absurd same
tag_same (Some x) None b same = absurd same
tag_same (Some x) (Some y) b same = same.tags b.tag

full_same : (x y : Option KnownQueue) (b : PostedBuffer) → SameQueues x y → is_full x b ≡ is_full y b
full_same None None b same = refl
full_same None (Some y) b same = absurd same
full_same (Some x) None b same = absurd same
full_same (Some x) (Some y) b same = ap (λ (n : ℕ). nat_lt n (x.slots + slots_of b)) same.size ∙ ap (λ (n : ℕ). nat_lt y.size (n + slots_of b)) same.slots

too_large_same : (x y : Option KnownQueue) (b : PostedBuffer) → SameQueues x y → is_too_large x b ≡ is_too_large y b
too_large_same None None b same = refl
too_large_same None (Some y) b same = absurd same
too_large_same (Some x) None b same = absurd same
too_large_same (Some x) (Some y) b same = ap (λ (n : ℕ). nat_lt LONGEST_BUFFER (sum b.lengths) || (b.indirect && nat_lt n (length b.lengths))) same.size

module _ (k l : Known) (same : SameKnown k l) where
  -- the tests on the device
  status_is : (n : ℕ) → (k.status == n) ≡ (l.status == n)
  status_is n = ap (λ (s : ℕ). s == n) same.status

  agreed : is_agreed k ≡ is_agreed l
  agreed = ap (λ (s : ℕ). s == AGREED || s == RUNNING) same.status

  accepted : (bits : ℕ) → has_bits k.accepted bits ≡ has_bits l.accepted bits
  accepted bits = ap (λ (features : ℕ). has_bits features bits) same.accepted

  lacks : (n : ℕ) → lacks_queue k n ≡ lacks_queue l n
  lacks n = ap (λ (count : ℕ). nat_le count n) same.count

  is_set : (n : ℕ) → is_queue_set k n ≡ is_queue_set l n
  is_set n = is_set_same (known_queue k n) (known_queue l n) (same.queues n)

  writable : (field : Field) → is_writable k field ≡ is_writable l field
  writable Writeback =
      ap (λ (b : Bool). b && has_bits k.status FEATURES_OK) (accepted BLK_CONFIG_WCE) ∙ ap (λ (s : ℕ). has_bits l.accepted BLK_CONFIG_WCE && has_bits s FEATURES_OK) same.status
  writable Emerg = refl
  writable Capacity = refl
  writable SegMax = refl
  writable BlkSize = refl
  writable Mac = refl
  writable NetStatus = refl
  writable Cols = refl
  writable Rows = refl
  writable Ports = refl

  -- those that every operation on a queue has, those of a buffer, and that of arming
  on_queue : (n : ℕ) (ready ready2 : Bool) → ready ≡ ready2 → queue_tests k n ready ≡ queue_tests l n ready2
  on_queue n ready ready2 is = same_cons why.State (ap not is) (same_cons why.Queue (lacks n) (same_cons why.Unset (ap not (is_set n)) refl))

  buffer : (n : ℕ) (b : PostedBuffer) → buffer_tests k (known_queue k n) b ≡ buffer_tests l (known_queue l n) b
  buffer n b =
      let both : SameQueues (known_queue k n) (known_queue l n) = same.queues n in
      same_cons why.Tag (tag_same (known_queue k n) (known_queue l n) b both)
      (same_cons why.Full (full_same (known_queue k n) (known_queue l n) b both)
      (same_cons why.Range (too_large_same (known_queue k n) (known_queue l n) b both)
      (same_cons why.Mode (ap (λ (x : Bool). b.indirect && not x) (accepted INDIRECT_DESC)) refl)))

  mode : mode_tests k ≡ mode_tests l
  mode = same_cons why.Mode (accepted EVENT_IDX) refl

  armed : (n : ℕ) → first_of (queue_tests k n (is_agreed k) ++ mode_tests k) ≡ first_of (queue_tests l n (is_agreed l) ++ mode_tests l)
  armed n =
      ap (λ (tests : List (Bool × Why)). first_of (tests ++ mode_tests k)) (on_queue n (is_agreed k) (is_agreed l) agreed)
      ∙ ap (λ (tests : List (Bool × Why)). first_of (queue_tests l n (is_agreed l) ++ tests)) mode

  unless_reset : first_of ((not k.reset_since, why.State) ∷ []) ≡ first_of ((not l.reset_since, why.State) ∷ [])
  unless_reset = same_one (not k.reset_since) (not l.reset_since) why.State (ap not same.reset_since)

  pub same_refusal : (op : Operation) → refusal_of k op ≡ refusal_of l op
  same_refusal (Probe dev) = same_one k.probed l.probed why.State same.probed
  same_refusal (Reset dev) = same_one (not k.probed) (not l.probed) why.State (ap not same.probed)
  same_refusal (Features dev) = unless_reset
  same_refusal (GetStatus dev) = unless_reset
  same_refusal (Accept dev features) = same_one (not (k.status == DRIVEN)) (not (l.status == DRIVEN)) why.State (ap not (status_is DRIVEN))
  same_refusal (SetStatus dev s) =
      same_one (not (k.reset_since && k.status == status_before s)) (not (l.reset_since && l.status == status_before s)) why.State
      (ap (λ (b : Bool). not (b && k.status == status_before s)) same.reset_since ∙ ap (λ (b : Bool). not (l.reset_since && b)) (status_is (status_before s)))
  same_refusal (SetQueue dev n size) =
      let tests : Known → List (Bool × Why) = λ m. (not (m.status == AGREED), why.State) ∷ (lacks_queue m n, why.Queue) ∷ (not (is_queue_size size), why.Size) ∷ (is_queue_set m n, why.Set) ∷ [] in
      let is : tests k ≡ tests l = same_cons why.State (ap not (status_is AGREED)) (same_cons why.Queue (lacks n) (same_cons why.Size refl (same_cons why.Set (is_set n) refl))) in
      ap first_of is
  same_refusal (Post dev n b) =
      ap (λ (tests : List (Bool × Why)). first_of (tests ++ buffer_tests k (known_queue k n) b)) (on_queue n (is_agreed k) (is_agreed l) agreed)
      ∙ ap (λ (tests : List (Bool × Why)). first_of (queue_tests l n (is_agreed l) ++ tests)) (buffer n b)
  same_refusal (Notify dev n) = ap first_of (on_queue n (k.status == RUNNING) (l.status == RUNNING) (status_is RUNNING))
  same_refusal (Reap dev n) = ap first_of (on_queue n (is_agreed k) (is_agreed l) agreed)
  same_refusal (Arm dev n) = armed n
  same_refusal (Disarm dev n) = armed n
  same_refusal (ReadConfig dev field) = unless_reset
  same_refusal (WriteConfig dev field value) =
      let tests : Known → List (Bool × Why) = λ m. (not m.reset_since, why.State) ∷ (nat_lt (greatest_value field) value, why.Range) ∷ (not (is_writable m field), why.Mode) ∷ [] in
      let is : tests k ≡ tests l = same_cons why.State (ap not same.reset_since) (same_cons why.Range refl (same_cons why.Mode (ap not (writable field)) refl)) in
      ap first_of is
  same_refusal (IrqQueues dev) = unless_reset
  same_refusal (IrqConfig dev) = unless_reset
