-- The state table reads the same of a queue in both halves, where no buffer is in flight.
use Rattle.std.proofs.Common.{◌≡◌, ℕ, ◌+◌, List, [], ◌∷◌, ◌++◌, map, Bool, true, false, ◌||◌, refl, sym, ◌∙◌, ap, arith}
use Rattle.std.specs.Prelude.{◌==◌, sum}
use Rattle.std.proofs.lemmas.List.{map-append}
use Rattle.std.proofs.lemmas.List.Sums.{sum_by-cons}
use Rattle.vq_common.specs.Queue.{DeviceQueue, DriverQueue, Unreaped, holds_tag, slots_of}
use Rattle.vq_common.proofs.QueueLaws.{holds_tag-append}
use Rattle.state_table.specs.Known.{KnownQueue}
use Rattle.state_table.specs.Refusal.{has_tag}
use Rattle.state_table.specs.Same.{SameQueue}
use Rattle.abstract_devices.specs.World.{AbstractQueue, Buffer, UsedBuffer}
use Rattle.abstract_devices.specs.World as abstract
use Rattle.drv_core.specs.Driver as driver
use Rattle.ring_part.specs.Held.{Held, UsedHeld, available_of, held_of, all_held, unreaped_of, used_of}
use Rattle.ring_part.specs.RingPart.{RingPart}
use Rattle.ring_part.proofs.Lists.{slots_of_held, slots-append}
use Rattle.ring_part.proofs.Records.{slots_in, tags_in}

-- a tag is in one of two lists
has_tag-append : (tag : ℕ) (xs ys : List ℕ) → has_tag tag (xs ++ ys) ≡ (has_tag tag xs || has_tag tag ys)
has_tag-append tag [] ys = refl
has_tag-append tag (x ∷ xs) ys = ap (λ (b : Bool). x == tag || b) (has_tag-append tag xs ys) ∙ assoc (x == tag) (has_tag tag xs) (has_tag tag ys)
  where
    assoc : (a b c : Bool) → (a || (b || c)) ≡ ((a || b) || c)
    assoc true b c = refl
    assoc false b c = refl

pub has_tag-unreaped : (tag : ℕ) (us : List Unreaped) → has_tag tag (map (λ (u : Unreaped). u.tag) us) ≡ holds_tag tag us
has_tag-unreaped tag [] = refl
has_tag-unreaped tag (u ∷ us) = ap (λ (b : Bool). u.tag == tag || b) (has_tag-unreaped tag us)

-- the tags of those that wait, and of those that were used
waiting_tags : (tag : ℕ) (hs : List Held) → holds_tag tag (map unreaped_of hs) ≡ has_tag tag (map (λ (b : Buffer). b.tag) (map available_of hs))
waiting_tags tag [] = refl
waiting_tags tag (h ∷ hs) = ap (λ (b : Bool). h.buffer.tag == tag || b) (waiting_tags tag hs)

used_tags : (tag : ℕ) (us : List UsedHeld) → holds_tag tag (map unreaped_of (held_of us)) ≡ has_tag tag (map (λ (u : UsedBuffer). u.tag) (map used_of us))
used_tags tag [] = refl
used_tags tag (u ∷ us) = ap (λ (b : Bool). u.held.buffer.tag == tag || b) (used_tags tag us)

-- their slots
waiting_slots : (hs : List Held) → slots_of_held hs ≡ sum (map (λ (b : Buffer). b.slots) (map available_of hs))
waiting_slots [] = refl
waiting_slots (h ∷ hs) = ap (λ (n : ℕ). slots_of h.buffer + n) (waiting_slots hs) ∙ sym (sum_by-cons (λ (x : ℕ). x) (slots_of h.buffer) (map (λ (b : Buffer). b.slots) (map available_of hs)))

used_slots : (us : List UsedHeld) → slots_of_held (held_of us) ≡ sum (map (λ (u : UsedBuffer). u.slots) (map used_of us))
used_slots [] = refl
used_slots (u ∷ us) = ap (λ (n : ℕ). slots_of u.held.buffer + n) (used_slots us) ∙ sym (sum_by-cons (λ (x : ℕ). x) (slots_of u.held.buffer) (map (λ (v : UsedBuffer). v.slots) (map used_of us)))

or_swapped : (a b : Bool) → (a || b) ≡ (b || a)
or_swapped true true = refl
or_swapped true false = refl
or_swapped false true = refl
or_swapped false false = refl

module _ {mem : List ℕ} {a : AbstractQueue} {d : DeviceQueue} {q : DriverQueue} {used : List UsedHeld} {waiting : List Held} (part : RingPart mem a d q used [] waiting) where
  abbrev of_driver : KnownQueue
  of_driver = driver.queue_known q

  abbrev of_abstract : KnownQueue
  of_abstract = abstract.queue_known a

  pub size_agrees : of_driver.size ≡ of_abstract.size
  size_agrees = sym part.same.size

  pub slots_agree : of_driver.slots ≡ of_abstract.slots
  slots_agree =
      let available : slots_of_held waiting ≡ sum (map (λ (b : Buffer). b.slots) a.available) = waiting_slots waiting ∙ ap (λ (bs : List Buffer). sum (map (λ (b : Buffer). b.slots) bs)) (sym part.lists.available) in
      let finished : slots_of_held (held_of used) ≡ sum (map (λ (u : UsedBuffer). u.slots) a.used) = used_slots used ∙ ap (λ (us : List UsedBuffer). sum (map (λ (u : UsedBuffer). u.slots) us)) (sym part.lists.finished) in
      omega (arith, slots_in q.unreaped (all_held used [] waiting) part.buffers.these, slots-append (held_of used) waiting, available, finished)

  pub tags_agree : (tag : ℕ) → has_tag tag of_driver.tags ≡ has_tag tag of_abstract.tags
  tags_agree tag =
      let available : List ℕ = map (λ (b : Buffer). b.tag) a.available in
      let finished : List ℕ = map (λ (u : UsedBuffer). u.tag) a.used in
      has_tag-unreaped tag q.unreaped
      ∙ tags_in tag q.unreaped (all_held used [] waiting) part.buffers.these
      ∙ ap (holds_tag tag) (map-append unreaped_of (held_of used) waiting)
      ∙ holds_tag-append tag (map unreaped_of (held_of used)) (map unreaped_of waiting)
      ∙ ap (λ (b : Bool). b || holds_tag tag (map unreaped_of waiting)) (used_tags tag used ∙ ap (λ (us : List UsedBuffer). has_tag tag (map (λ (u : UsedBuffer). u.tag) us)) (sym part.lists.finished))
      ∙ ap (λ (b : Bool). has_tag tag finished || b) (waiting_tags tag waiting ∙ ap (λ (bs : List Buffer). has_tag tag (map (λ (b : Buffer). b.tag) bs)) (sym part.lists.available))
      ∙ or_swapped (has_tag tag finished) (has_tag tag available)
      ∙ sym (has_tag-append tag available finished)

  -- so the state table sees no difference
  pub queue_agrees : SameQueue of_abstract of_driver
  queue_agrees = record { size = sym size_agrees; slots = sym slots_agree; tags = λ tag. sym (tags_agree tag) }
