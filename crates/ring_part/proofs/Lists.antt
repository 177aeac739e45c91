-- The descriptors, slots and puts of joined lists.
use Rattle.std.proofs.Common.{◌≡◌, ℕ, ◌+◌, ◌≤◌, List, [], ◌∷◌, ◌++◌, length, map, true, false, inl, inr, sym, ◌∙◌, ap, arith}
use Rattle.std.specs.Prelude.{All}
use Rattle.std.proofs.lemmas.Bool.{or_left, or_right, or_cases}
use Rattle.std.proofs.lemmas.List.{map-append}
use Rattle.std.proofs.lemmas.List.Elements.{All-nil, All-cons, All-head, All-tail}
use Rattle.vq_common.specs.declared.chain.RingCfg.{RingCfg}
use Rattle.vq_common.specs.Queue.{slots_of_all}
use Rattle.vq_common.proofs.QueueLaws.{slots_of_all-append}
use Rattle.vq_posted.specs.Free.{is_in, descriptors_in_use}
use Rattle.vq_posted.proofs.Members.{is_in-append}
use Rattle.vq_common.proofs.PostLaws.{slots_of-some}
use Rattle.vq_posted.proofs.Buffers.{descriptors_in_use-append}
use Rattle.ring_part.specs.Held.{Held, CanStand, unreaped_of}
use Rattle.ring_part.specs.RingPuts.{all_puts, held_puts}
use Rattle.memory_port.specs.Puts.{Hold}
use Rattle.memory_port.proofs.PutLaws.{hold-parts, hold-append}
use Rattle.ring_part.proofs.Records.{locations_of}

-- the slots of buffers
abbrev pub slots_of_held : List Held → ℕ
slots_of_held hs = slots_of_all (map unreaped_of hs)

pub slots-append : (xs ys : List Held) → slots_of_held (xs ++ ys) ≡ slots_of_held xs + slots_of_held ys
slots-append xs ys = ap slots_of_all (map-append unreaped_of xs ys) ∙ slots_of_all-append (map unreaped_of xs) (map unreaped_of ys)

pub locations-append : (xs ys : List Held) → locations_of (xs ++ ys) ≡ locations_of xs ++ locations_of ys
locations-append xs ys = ap descriptors_in_use (map-append unreaped_of xs ys) ∙ descriptors_in_use-append (map unreaped_of xs) (map unreaped_of ys)

-- a buffer takes a slot or more
pub few_slots : (cfg : RingCfg) (hs : List Held) → All (CanStand cfg) hs → length hs ≤ slots_of_held hs
few_slots cfg [] can = omega arith
few_slots cfg (h ∷ hs) can =
    let (some, few) = slots_of-some h.buffer (All-head (CanStand cfg) h hs can).postable in
    omega (arith, few_slots cfg hs (All-tail (CanStand cfg) h hs can))

-- what holds of each of joined lists holds of each of either
pub all_back : {X : Type 0} (P : X → Type 0) (xs ys : List X) → All P (xs ++ ys) → All P ys
all_back P [] ys all = all
all_back P (x ∷ xs) ys all = all_back P xs ys (All-tail P x (xs ++ ys) all)

pub all_front : {X : Type 0} (P : X → Type 0) (xs ys : List X) → All P (xs ++ ys) → All P xs
all_front P [] ys all = All-nil P
all_front P (x ∷ xs) ys all = All-cons P x xs (All-head P x (xs ++ ys) all) (all_front P xs ys (All-tail P x (xs ++ ys) all))

-- puts of joined lists stand where those of both do
pub puts_parts : (cfg : RingCfg) (base : ℕ) (xs ys : List Held) (mem : List ℕ) → Hold (all_puts cfg base (xs ++ ys)) mem → Hold (all_puts cfg base xs) mem × Hold (all_puts cfg base ys) mem
puts_parts cfg base [] ys mem holds = (tt, holds)
puts_parts cfg base (x ∷ xs) ys mem holds =
    let (here, others) = hold-parts (held_puts cfg base x) (all_puts cfg base (xs ++ ys)) mem holds in
    let (front, back) = puts_parts cfg base xs ys mem others in
    (hold-append (held_puts cfg base x) (all_puts cfg base xs) mem here front, back)

pub puts-append : (cfg : RingCfg) (base : ℕ) (xs ys : List Held) (mem : List ℕ) → Hold (all_puts cfg base xs) mem → Hold (all_puts cfg base ys) mem → Hold (all_puts cfg base (xs ++ ys)) mem
puts-append cfg base [] ys mem front back = back
puts-append cfg base (x ∷ xs) ys mem front back =
    let (here, others) = hold-parts (held_puts cfg base x) (all_puts cfg base xs) mem front in
    hold-append (held_puts cfg base x) (all_puts cfg base (xs ++ ys)) mem here (puts-append cfg base xs ys mem others back)

-- descriptors of either of joined lists are in use by both
pub in_front : (n : ℕ) (xs ys : List Held) → is_in n (locations_of xs) ≡ true → is_in n (locations_of (xs ++ ys)) ≡ true
in_front n xs ys m = ap (is_in n) (locations-append xs ys) ∙ is_in-append n (locations_of xs) (locations_of ys) ∙ or_left (is_in n (locations_of xs)) (is_in n (locations_of ys)) m

pub in_back : (n : ℕ) (xs ys : List Held) → is_in n (locations_of ys) ≡ true → is_in n (locations_of (xs ++ ys)) ≡ true
in_back n xs ys m = ap (is_in n) (locations-append xs ys) ∙ is_in-append n (locations_of xs) (locations_of ys) ∙ or_right (is_in n (locations_of xs)) (is_in n (locations_of ys)) m

-- those of others are in use with one more
pub in_wider : (n : ℕ) (xs : List Held) (h : Held) (ys : List Held) → is_in n (locations_of (xs ++ ys)) ≡ true → is_in n (locations_of (xs ++ h ∷ ys)) ≡ true
in_wider n [] h ys m = in_back n (h ∷ []) ys m
in_wider n (x ∷ xs) h ys m =
    elim (or_cases (is_in n (x.head ∷ x.others)) (is_in n (locations_of (xs ++ ys))) (sym (is_in-append n (x.head ∷ x.others) (locations_of (xs ++ ys))) ∙ m)) [
      | inl here ↦ in_front n (x ∷ []) (xs ++ h ∷ ys) (is_in-append n (x.head ∷ x.others) [] ∙ or_left (is_in n (x.head ∷ x.others)) false here)
      | inr others ↦ in_back n (x ∷ []) (xs ++ h ∷ ys) (in_wider n xs h ys others)
    ]
