-- Lists of unreaped buffers: one more, one fewer, and the free descriptors.
use Rattle.std.proofs.Common.{◌≡◌, ℕ, ◌+◌, ◌-◌, ◌<◌, ◌≤◌, List, [], ◌∷◌, ◌++◌, Bool, true, false, not, ◌||◌, ◌&&◌, eqb, ltb, length, take, Option, Some, None, refl, sym, ◌∙◌, ap, subst, inl, inr, arith, append_assoc, length-append}
use Rattle.std.specs.Prelude.{IsTrue, All, option_map}
use Rattle.std.proofs.lemmas.Bool.{false≢true, cases_Bool, eqb-true, eq-eqb, or_left, or_right, not-true, cond-true, cond-false}
use Rattle.std.proofs.lemmas.List.{length-take-le, map-append}
use Rattle.std.proofs.lemmas.List.Elements.{All-head, All-tail, All-take}
use Rattle.std.proofs.lemmas.Option.{same_Some}
use Rattle.vq_common.specs.Queue.{Unreaped, slots_of_all, with_buffer, unreaped_with, without, holds_tag}
use Rattle.vq_posted.specs.Free.{head_of, descriptors_in_use, is_in, is_distinct, numbers, free_descriptors}
use Rattle.vq_posted.specs.Order.{IsBuffer, IsInOrder, ids_rise, tags_of}
use Rattle.vq_posted.proofs.Members.{is_in-append, is_in_take, is_in_filter, distinct_filter, distinct_take, distinct_without, distinct_middle, distinct_between, middle_apart, all_at, all_from_members, all_without, all_middle, all_with}
use Rattle.vq_posted.proofs.Numbers.{is_in_numbers, numbers_has, distinct_numbers, length-numbers, length_free}

or_off : (b : Bool) → (b || false) ≡ b
or_off true = refl
or_off false = refl

one_member : (x n : ℕ) → is_in n (x ∷ []) ≡ true → x ≡ n
one_member x n h = eqb-true x n (sym (or_off (eqb x n)) ∙ h)

all_here : {X : Type 0} (P : X → Type 0) (xs : List X) (y : X) (ys : List X) → All P (xs ++ y ∷ ys) → P y
all_here P [] y ys all = All-head P y ys all
all_here P (x ∷ xs) y ys all = all_here P xs y ys (All-tail P x (xs ++ y ∷ ys) all)

all_inside : (P : ℕ → Type 0) (xs ys zs : List ℕ) → All P (xs ++ (ys ++ zs)) → All P ys
all_inside P xs ys zs all =
    all_from_members P ys (λ n m.
    let here : is_in n (ys ++ zs) ≡ true = is_in-append n ys zs ∙ or_left (is_in n ys) (is_in n zs) m in
    all_at P (xs ++ (ys ++ zs)) n all (is_in-append n xs (ys ++ zs) ∙ or_right (is_in n xs) (is_in n (ys ++ zs)) here))

all_between : (P : ℕ → Type 0) (xs ys zs : List ℕ) → All P (xs ++ zs) → All P ys → All P (xs ++ (ys ++ zs))
all_between P xs [] zs all own = all
all_between P xs (y ∷ ys) zs all own = all_with P xs y (ys ++ zs) (all_between P xs ys zs all (All-tail P y ys own)) (All-head P y ys own)

-- the descriptors in use by two lists of buffers
pub descriptors_in_use-append : (us vs : List Unreaped) → descriptors_in_use (us ++ vs) ≡ descriptors_in_use us ++ descriptors_in_use vs
descriptors_in_use-append [] vs = refl
descriptors_in_use-append (u ∷ us) vs =
    ap (λ (ns : List ℕ). u.descriptors ++ ns) (descriptors_in_use-append us vs) ∙ sym (append_assoc u.descriptors (descriptors_in_use us) (descriptors_in_use vs))

-- the slots of two lists of buffers
pub slots_of_all-append : (us vs : List Unreaped) → slots_of_all (us ++ vs) ≡ slots_of_all us + slots_of_all vs
slots_of_all-append [] vs = omega arith
slots_of_all-append (u ∷ us) vs = omega (arith, slots_of_all-append us vs)

-- a tag is held where it is one of the tags
pub holds_tag-is_in : (tag : ℕ) (us : List Unreaped) → holds_tag tag us ≡ is_in tag (tags_of us)
holds_tag-is_in tag [] = refl
holds_tag-is_in tag (u ∷ us) = ap (λ (b : Bool). eqb u.tag tag || b) (holds_tag-is_in tag us)

-- a buffer that joins stands between two parts
pub record Joins (u : Unreaped) (us front back : List Unreaped) : Type 0 where
  pub others : us ≡ front ++ back
  pub all : with_buffer u us ≡ front ++ u ∷ back

pub joins : (u : Unreaped) (us : List Unreaped) → (front back : List Unreaped) × Joins u us front back
joins u [] = ([], [], record { others = refl; all = refl })
joins u (v ∷ vs) = elim (cases_Bool (ltb u.id v.id)) [
  | inl t ↦ ([], v ∷ vs, record { others = refl; all = cond-true (ltb u.id v.id) (u ∷ v ∷ vs) (v ∷ with_buffer u vs) t })
  | inr f ↦
      let (front, back, j) = joins u vs in
      (v ∷ front, back, record { others = ap (λ (ws : List Unreaped). v ∷ ws) j.others; all = cond-false (ltb u.id v.id) (u ∷ v ∷ vs) (v ∷ with_buffer u vs) f ∙ ap (λ (ws : List Unreaped). v ∷ ws) j.all })
]

-- one that leaves stood between two parts
pub record Leaves (id : ℕ) (u : Unreaped) (us front back : List Unreaped) : Type 0 where
  pub all : us ≡ front ++ u ∷ back
  pub others : without id us ≡ front ++ back

pub leaves : (id : ℕ) (u : Unreaped) (us : List Unreaped) → unreaped_with id us ≡ Some u → (front back : List Unreaped) × Leaves id u us front back
leaves id u [] h = absurd (let none : None ≡ Some u = h in cc)
leaves id u (v ∷ vs) h = elim (cases_Bool (eqb v.id id)) [
  | inl t ↦
      let same : v ≡ u = same_Some v u (sym (cond-true (eqb v.id id) (Some v) (unreaped_with id vs) t) ∙ h) in
      ([], vs, record { all = ap (λ (w : Unreaped). w ∷ vs) same; others = cond-true (eqb v.id id) vs (v ∷ without id vs) t })
  | inr f ↦
      let (front, back, l) = leaves id u vs (sym (cond-false (eqb v.id id) (Some v) (unreaped_with id vs) f) ∙ h) in
      (v ∷ front, back, record { all = ap (λ (ws : List Unreaped). v ∷ ws) l.all; others = cond-false (eqb v.id id) vs (v ∷ without id vs) f ∙ ap (λ (ws : List Unreaped). v ∷ ws) l.others })
]

or_between : (a b c : Bool) → (a || (b || c)) ≡ (b || (a || c))
or_between true true c = refl
or_between true false c = refl
or_between false true c = refl
or_between false false c = refl

-- what is in use once a buffer joined
pub in_use_between : (front : List Unreaped) (u : Unreaped) (back : List Unreaped) → descriptors_in_use (front ++ u ∷ back) ≡ descriptors_in_use front ++ (u.descriptors ++ descriptors_in_use back)
in_use_between front u back = descriptors_in_use-append front (u ∷ back)

is_in_between : (n : ℕ) (xs ys zs : List ℕ) → is_in n (xs ++ (ys ++ zs)) ≡ (is_in n ys || is_in n (xs ++ zs))
is_in_between n xs ys zs =
    is_in-append n xs (ys ++ zs)
    ∙ ap (λ (b : Bool). is_in n xs || b) (is_in-append n ys zs)
    ∙ or_between (is_in n xs) (is_in n ys) (is_in n zs)
    ∙ ap (λ (b : Bool). is_in n ys || b) (sym (is_in-append n xs zs))

pub in_use_joined : (u : Unreaped) (us : List Unreaped) (n : ℕ) → is_in n (descriptors_in_use (with_buffer u us)) ≡ (is_in n u.descriptors || is_in n (descriptors_in_use us))
in_use_joined u us n =
    let (front, back, j) = joins u us in
    ap (λ (ws : List Unreaped). is_in n (descriptors_in_use ws)) j.all
    ∙ ap (is_in n) (in_use_between front u back)
    ∙ is_in_between n (descriptors_in_use front) u.descriptors (descriptors_in_use back)
    ∙ ap (λ (ns : List ℕ). is_in n u.descriptors || is_in n ns) (sym (descriptors_in_use-append front back))
    ∙ ap (λ (ws : List Unreaped). is_in n u.descriptors || is_in n (descriptors_in_use ws)) (sym j.others)

pub tag_joined : (u : Unreaped) (us : List Unreaped) (tag : ℕ) → holds_tag tag (with_buffer u us) ≡ (eqb u.tag tag || holds_tag tag us)
tag_joined u [] tag = refl
tag_joined u (v ∷ vs) tag =
    elim (cases_Bool (ltb u.id v.id)) [
      | inl t ↦ ap (holds_tag tag) (cond-true (ltb u.id v.id) (u ∷ v ∷ vs) (v ∷ with_buffer u vs) t)
      | inr f ↦
          ap (holds_tag tag) (cond-false (ltb u.id v.id) (u ∷ v ∷ vs) (v ∷ with_buffer u vs) f)
          ∙ ap (λ (b : Bool). eqb v.tag tag || b) (tag_joined u vs tag)
          ∙ or_between (eqb v.tag tag) (eqb u.tag tag) (holds_tag tag vs)
    ]

pub slots_joined : (u : Unreaped) (us : List Unreaped) → slots_of_all (with_buffer u us) ≡ u.slots + slots_of_all us
slots_joined u us =
    let (front, back, j) = joins u us in
    omega (arith, ap slots_of_all j.all, ap slots_of_all j.others, slots_of_all-append front (u ∷ back), slots_of_all-append front back)

-- each buffer has no more descriptors than slots
pub in_use-le : (us : List Unreaped) → All IsBuffer us → length (descriptors_in_use us) ≤ slots_of_all us
in_use-le [] each = omega arith
in_use-le (u ∷ us) each =
    let this : length u.descriptors ≤ u.slots = (All-head IsBuffer u us each).slots in
    omega (arith, in_use-le us (All-tail IsBuffer u us each), length-append u.descriptors (descriptors_in_use us))

-- a member of the free descriptors is below the size, and not in use
pub free_parts : (size : ℕ) (us : List Unreaped) (n : ℕ) → is_in n (free_descriptors size us) ≡ true → (n < size) × (is_in n (descriptors_in_use us) ≡ false)
free_parts size us n h =
    let (a, b) = is_in_filter (λ n. not (is_in n (descriptors_in_use us))) n (numbers 0 size) h in
    let (c, d) = is_in_numbers n 0 size b in
    (omega arith, not-true (is_in n (descriptors_in_use us)) a)

-- no two of them are the same
pub free_distinct : (size : ℕ) (us : List Unreaped) → IsTrue (is_distinct (free_descriptors size us))
free_distinct size us = distinct_filter (λ n. not (is_in n (descriptors_in_use us))) (numbers 0 size) (distinct_numbers 0 size)

-- those in use and those that are free are all
pub length_free_and_used : (size : ℕ) (us : List Unreaped) → IsInOrder size us → length (free_descriptors size us) + length (descriptors_in_use us) ≡ size
length_free_and_used size us h =
    length_free (descriptors_in_use us) (numbers 0 size) h.distinct (distinct_numbers 0 size)
    (λ n m. let low : n < size = all_at (λ n. n < size) (descriptors_in_use us) n h.below m in numbers_has n 0 size (omega arith) (omega arith))
    ∙ length-numbers 0 size

-- as many descriptors are free as slots, or more
pub free_descriptors-enough : (size : ℕ) (us : List Unreaped) → IsInOrder size us → size - slots_of_all us ≤ length (free_descriptors size us)
free_descriptors-enough size us h = omega (arith, length_free_and_used size us h, in_use-le us h.each)

pub lowest_free-length : (size count : ℕ) (us : List Unreaped) → IsInOrder size us → count ≤ size - slots_of_all us → length (take count (free_descriptors size us)) ≡ count
lowest_free-length size count us h room = length-take-le count (free_descriptors size us) (omega (arith, free_descriptors-enough size us h))

-- the descriptors of a buffer that is posted: below the size, all different, none in use
pub lowest_free-below : (size count : ℕ) (us : List Unreaped) → All (λ n. n < size) (take count (free_descriptors size us))
lowest_free-below size count us =
    All-take (λ n. n < size) count (free_descriptors size us) (all_from_members (λ n. n < size) (free_descriptors size us) (λ n h. (free_parts size us n h).0))

pub lowest_free-apart : (size count : ℕ) (us : List Unreaped) (n : ℕ) → is_in n (take count (free_descriptors size us)) ≡ true → is_in n (descriptors_in_use us) ≡ false
lowest_free-apart size count us n h = (free_parts size us n (is_in_take n count (free_descriptors size us) h)).1

-- the head of a buffer is below the size
head_below : (size : ℕ) (ns : List ℕ) → 1 ≤ length ns → All (λ n. n < size) ns → head_of ns < size
head_below size [] some all = absurd (omega arith)
head_below size (n ∷ ns) some all = All-head (λ n. n < size) n ns all

pub lowest_free-head : (size count : ℕ) (us : List Unreaped) → 1 ≤ length (take count (free_descriptors size us)) → head_of (take count (free_descriptors size us)) < size
lowest_free-head size count us some = head_below size (take count (free_descriptors size us)) some (lowest_free-below size count us)

-- a buffer among those in order is one that was posted, and its id is below the size
pub found_in_order : (size id : ℕ) (us : List Unreaped) (u : Unreaped) → IsInOrder size us → unreaped_with id us ≡ Some u → IsBuffer u × (u.id < size)
found_in_order size id us u h e =
    let (front, back, l) = leaves id u us e in
    let each : All IsBuffer (front ++ u ∷ back) = subst (λ (ws : List Unreaped). All IsBuffer ws) l.all h.each in
    let this : IsBuffer u = all_here IsBuffer front u back each in
    let below : All (λ n. n < size) (descriptors_in_use front ++ (u.descriptors ++ descriptors_in_use back))
    = subst (λ (ns : List ℕ). All (λ n. n < size) ns) (ap descriptors_in_use l.all ∙ in_use_between front u back) h.below
    in
    let own : All (λ n. n < size) u.descriptors = all_inside (λ n. n < size) (descriptors_in_use front) u.descriptors (descriptors_in_use back) below in
    let head : head_of u.descriptors < size = head_below size u.descriptors this.some own in
    let is : u.id ≡ head_of u.descriptors = this.id in
    (this, omega arith)

-- one more buffer keeps the order
pub in_order_joined : (size : ℕ) (u : Unreaped) (us : List Unreaped) → IsInOrder size us → IsBuffer u → u.descriptors ≡ take (length u.descriptors) (free_descriptors size us)
    → u.slots ≤ size - slots_of_all us → holds_tag u.tag us ≡ false → IsTrue (ids_rise (with_buffer u us)) → IsInOrder size (with_buffer u us)
in_order_joined size u us h buffer lowest room new rise =
    let count : ℕ = length u.descriptors in
    let (front, back, j) = joins u us in
    let used = descriptors_in_use in
    let around : used us ≡ used front ++ used back = ap used j.others ∙ descriptors_in_use-append front back in
    let between : used (with_buffer u us) ≡ used front ++ (u.descriptors ++ used back) = ap used j.all ∙ in_use_between front u back in
    let own : All (λ n. n < size) u.descriptors = subst (λ (ns : List ℕ). All (λ n. n < size) ns) (sym lowest) (lowest_free-below size count us) in
    let differ : IsTrue (is_distinct u.descriptors) = subst (λ (ns : List ℕ). IsTrue (is_distinct ns)) (sym lowest) (distinct_take count (free_descriptors size us) (free_distinct size us)) in
    let tags : tags_of us ≡ tags_of front ++ tags_of back = ap tags_of j.others ∙ map-append (λ (v : Unreaped). v.tag) front back in
    let slots : slots_of_all us ≤ size = h.slots in
    record {
      each = subst (λ (ws : List Unreaped). All IsBuffer ws) (sym j.all) (all_with IsBuffer front u back (subst (λ (ws : List Unreaped). All IsBuffer ws) j.others h.each) buffer);
      below =
          subst (λ (ns : List ℕ). All (λ n. n < size) ns) (sym between)
          (all_between (λ n. n < size) (used front) u.descriptors (used back) (subst (λ (ns : List ℕ). All (λ n. n < size) ns) around h.below) own);
      distinct =
          subst (λ (ns : List ℕ). IsTrue (is_distinct ns)) (sym between)
          (distinct_between (used front) u.descriptors (used back) (subst (λ (ns : List ℕ). IsTrue (is_distinct ns)) around h.distinct) differ
          (λ n m. ap (is_in n) (sym around) ∙ lowest_free-apart size count us n (ap (is_in n) (sym lowest) ∙ m)));
      slots = omega (arith, slots_joined u us);
      ids = rise;
      tags =
          subst (λ (ns : List ℕ). IsTrue (is_distinct ns)) (sym (ap tags_of j.all ∙ map-append (λ (v : Unreaped). v.tag) front (u ∷ back)))
          (distinct_between (tags_of front) (u.tag ∷ []) (tags_of back) (subst (λ (ns : List ℕ). IsTrue (is_distinct ns)) tags h.tags) refl
          (λ n m.
          let same : u.tag ≡ n = one_member u.tag n m in
          ap (is_in n) (sym tags) ∙ sym (holds_tag-is_in n us) ∙ ap (λ (t : ℕ). holds_tag t us) (sym same) ∙ new));
    }

-- the slots of a buffer that left
pub slots_left : (id : ℕ) (u : Unreaped) (us : List Unreaped) → unreaped_with id us ≡ Some u → slots_of_all us ≡ u.slots + slots_of_all (without id us)
slots_left id u us e =
    let (front, back, l) = leaves id u us e in
    omega (arith, ap slots_of_all l.all, ap slots_of_all l.others, slots_of_all-append front (u ∷ back), slots_of_all-append front back)

-- what is in use is used by a buffer that is found, or by the others
pub in_use_found : (id : ℕ) (u : Unreaped) (us : List Unreaped) → unreaped_with id us ≡ Some u → (n : ℕ)
    → is_in n (descriptors_in_use us) ≡ (is_in n u.descriptors || is_in n (descriptors_in_use (without id us)))
in_use_found id u us e n =
    let (front, back, l) = leaves id u us e in
    ap (λ (ws : List Unreaped). is_in n (descriptors_in_use ws)) l.all
    ∙ ap (is_in n) (in_use_between front u back)
    ∙ is_in_between n (descriptors_in_use front) u.descriptors (descriptors_in_use back)
    ∙ ap (λ (ns : List ℕ). is_in n u.descriptors || is_in n ns) (sym (ap descriptors_in_use l.others ∙ descriptors_in_use-append front back))

-- a tag is held by that buffer, or by the others
pub tag_found : (id : ℕ) (u : Unreaped) (us : List Unreaped) → unreaped_with id us ≡ Some u → (tag : ℕ) → holds_tag tag us ≡ (eqb u.tag tag || holds_tag tag (without id us))
tag_found id u us e tag =
    let (front, back, l) = leaves id u us e in
    let others : tags_of (without id us) ≡ tags_of front ++ tags_of back = ap tags_of l.others ∙ map-append (λ (v : Unreaped). v.tag) front back in
    holds_tag-is_in tag us
    ∙ ap (is_in tag) (ap tags_of l.all ∙ map-append (λ (v : Unreaped). v.tag) front (u ∷ back))
    ∙ is_in_between tag (tags_of front) (u.tag ∷ []) (tags_of back)
    ∙ ap (λ (b : Bool). b || is_in tag (tags_of front ++ tags_of back)) (or_off (eqb u.tag tag))
    ∙ ap (λ (b : Bool). eqb u.tag tag || b) (sym (holds_tag-is_in tag (without id us) ∙ ap (is_in tag) others))

if_same : (a b : Bool) → (a ≡ true → b ≡ false) → b ≡ (not a && (a || b))
if_same true b h = h refl
if_same false b h = refl

-- its tag is not held any more
pub tag_left : (size id : ℕ) (u : Unreaped) (us : List Unreaped) → IsInOrder size us → unreaped_with id us ≡ Some u → (tag : ℕ) → holds_tag tag (without id us) ≡ (not (eqb u.tag tag) && holds_tag tag us)
tag_left size id u us h e tag =
    let (front, back, l) = leaves id u us e in
    let before : tags_of us ≡ tags_of front ++ ((u.tag ∷ []) ++ tags_of back) = ap tags_of l.all ∙ map-append (λ (v : Unreaped). v.tag) front (u ∷ back) in
    let after : tags_of (without id us) ≡ tags_of front ++ tags_of back = ap tags_of l.others ∙ map-append (λ (v : Unreaped). v.tag) front back in
    let out : is_in tag (u.tag ∷ []) ≡ true → is_in tag (tags_of front ++ tags_of back) ≡ false
    = middle_apart (tags_of front) (u.tag ∷ []) (tags_of back) (subst (λ (ns : List ℕ). IsTrue (is_distinct ns)) before h.tags) tag
    in
    let one : is_in tag (u.tag ∷ []) ≡ eqb u.tag tag = or_off (eqb u.tag tag) in
    holds_tag-is_in tag (without id us)
    ∙ ap (is_in tag) after
    ∙ if_same (eqb u.tag tag) (is_in tag (tags_of front ++ tags_of back)) (λ t. out (one ∙ t))
    ∙ ap (λ (b : Bool). not (eqb u.tag tag) && (b || is_in tag (tags_of front ++ tags_of back))) (sym one)
    ∙ ap (λ (b : Bool). not (eqb u.tag tag) && b) (sym (ap (is_in tag) before ∙ is_in_between tag (tags_of front) (u.tag ∷ []) (tags_of back)))
    ∙ ap (λ (b : Bool). not (eqb u.tag tag) && b) (sym (holds_tag-is_in tag us))

-- its descriptors are not in use any more
pub in_use_left : (size id : ℕ) (u : Unreaped) (us : List Unreaped) → IsInOrder size us → unreaped_with id us ≡ Some u → (n : ℕ)
    → is_in n (descriptors_in_use (without id us)) ≡ (not (is_in n u.descriptors) && is_in n (descriptors_in_use us))
in_use_left size id u us h e n =
    let (front, back, l) = leaves id u us e in
    let used = descriptors_in_use in
    let before : used us ≡ used front ++ (u.descriptors ++ used back) = ap used l.all ∙ in_use_between front u back in
    let after : used (without id us) ≡ used front ++ used back = ap used l.others ∙ descriptors_in_use-append front back in
    let out : is_in n u.descriptors ≡ true → is_in n (used front ++ used back) ≡ false
    = middle_apart (used front) u.descriptors (used back) (subst (λ (ns : List ℕ). IsTrue (is_distinct ns)) before h.distinct) n
    in
    ap (is_in n) after
    ∙ if_same (is_in n u.descriptors) (is_in n (used front ++ used back)) out
    ∙ ap (λ (b : Bool). not (is_in n u.descriptors) && b) (sym (ap (is_in n) before ∙ is_in_between n (used front) u.descriptors (used back)))

-- a descriptor of a buffer is below the size
pub own_below : (size id : ℕ) (u : Unreaped) (us : List Unreaped) → IsInOrder size us → unreaped_with id us ≡ Some u → All (λ n. n < size) u.descriptors
own_below size id u us h e =
    let (front, back, l) = leaves id u us e in
    all_inside (λ n. n < size) (descriptors_in_use front) u.descriptors (descriptors_in_use back)
    (subst (λ (ns : List ℕ). All (λ n. n < size) ns) (ap descriptors_in_use l.all ∙ in_use_between front u back) h.below)

-- one buffer fewer keeps it
pub in_order_left : (size id : ℕ) (u : Unreaped) (us : List Unreaped) → IsInOrder size us → unreaped_with id us ≡ Some u → IsTrue (ids_rise (without id us)) → IsInOrder size (without id us)
in_order_left size id u us h e rise =
    let (front, back, l) = leaves id u us e in
    let used = descriptors_in_use in
    let between : used us ≡ used front ++ (u.descriptors ++ used back) = ap used l.all ∙ in_use_between front u back in
    let around : used (without id us) ≡ used front ++ used back = ap used l.others ∙ descriptors_in_use-append front back in
    let tags : tags_of us ≡ tags_of front ++ (u.tag ∷ tags_of back) = ap tags_of l.all ∙ map-append (λ (v : Unreaped). v.tag) front (u ∷ back) in
    let slots : slots_of_all us ≤ size = h.slots in
    record {
      each = subst (λ (ws : List Unreaped). All IsBuffer ws) (sym l.others) (all_without IsBuffer front u back (subst (λ (ws : List Unreaped). All IsBuffer ws) l.all h.each));
      below =
          subst (λ (ns : List ℕ). All (λ n. n < size) ns) (sym around)
          (all_middle (λ n. n < size) (used front) u.descriptors (used back) (subst (λ (ns : List ℕ). All (λ n. n < size) ns) between h.below));
      distinct =
          subst (λ (ns : List ℕ). IsTrue (is_distinct ns)) (sym around)
          (distinct_middle (used front) u.descriptors (used back) (subst (λ (ns : List ℕ). IsTrue (is_distinct ns)) between h.distinct));
      slots = omega (arith, slots_left id u us e);
      ids = rise;
      tags =
          subst (λ (ns : List ℕ). IsTrue (is_distinct ns)) (sym (ap tags_of l.others ∙ map-append (λ (v : Unreaped). v.tag) front back))
          (distinct_without (tags_of front) u.tag (tags_of back) (subst (λ (ns : List ℕ). IsTrue (is_distinct ns)) tags h.tags)).1;
    }

-- an `Option` that no value equals is none
none_by : {X : Type 0} (o : Option X) → ((x : X) → o ≡ Some x → ⊥) → o ≡ None
none_by None h = refl
none_by (Some x) h = absurd (h x refl)

pub none_from_map : {X Y : Type 0} (f : X → Y) (o : Option X) → option_map f o ≡ None → o ≡ None
none_from_map f None h = refl
none_from_map f (Some x) h = absurd (let some : Some (f x) ≡ None = h in cc)

-- the head is one of the descriptors
pub head_is_in : (ns : List ℕ) → 1 ≤ length ns → is_in (head_of ns) ns ≡ true
head_is_in [] some = absurd (omega arith)
head_is_in (n ∷ ns) some = or_left (eqb n n) (is_in n ns) (eq-eqb n n refl)

-- a buffer that was found has the id that was sought
pub found_id : (id : ℕ) (us : List Unreaped) (u : Unreaped) → unreaped_with id us ≡ Some u → u.id ≡ id
found_id id [] u h = absurd (let none : None ≡ Some u = h in cc)
found_id id (v ∷ vs) u h = elim (cases_Bool (eqb v.id id)) [
  | inl t ↦
      let same : v ≡ u = same_Some v u (sym (cond-true (eqb v.id id) (Some v) (unreaped_with id vs) t) ∙ h) in
      ap (λ (w : Unreaped). w.id) (sym same) ∙ eqb-true v.id id t
  | inr f ↦ found_id id vs u (sym (cond-false (eqb v.id id) (Some v) (unreaped_with id vs) f) ∙ h)
]

-- an id that is not in use names no buffer
pub none_with_free_id : (size id : ℕ) (us : List Unreaped) → IsInOrder size us → is_in id (descriptors_in_use us) ≡ false → unreaped_with id us ≡ None
none_with_free_id size id us h out =
    none_by (unreaped_with id us) (λ u e.
    let (front, back, l) = leaves id u us e in
    let (buffer, low) = found_in_order size id us u h e in
    let is : head_of u.descriptors ≡ id = sym buffer.id ∙ found_id id us u e in
    let own : is_in id u.descriptors ≡ true = ap (λ (n : ℕ). is_in n u.descriptors) (sym is) ∙ head_is_in u.descriptors buffer.some in
    let inside : is_in id (descriptors_in_use us) ≡ true
    = ap (λ (ws : List Unreaped). is_in id (descriptors_in_use ws)) l.all
    ∙ ap (is_in id) (in_use_between front u back)
    ∙ is_in_between id (descriptors_in_use front) u.descriptors (descriptors_in_use back)
    ∙ or_left (is_in id u.descriptors) (is_in id (descriptors_in_use front ++ descriptors_in_use back)) own
    in
    false≢true (sym out ∙ inside))
