-- A list that has these buffers and no others: its descriptors, slots and tags.
use Rattle.std.proofs.Common.{◌≡◌, ℕ, List, [], ◌∷◌, ◌++◌, map, Bool, false, ◌||◌, eqb, IsTrue, refl, sym, ◌∙◌, ap, subst, arith}
use Rattle.std.specs.Prelude.{All}
use Rattle.std.proofs.lemmas.Bool.{false≢true, or_parts, eq-eqb}
use Rattle.std.proofs.lemmas.List.Elements.{All-nil, All-cons}
use Rattle.vq_common.specs.Queue.{Unreaped, slots_of_all, holds_tag, without}
use Rattle.vq_posted.specs.Free.{descriptors_in_use, is_distinct, is_in}
use Rattle.vq_posted.proofs.Buffers.{leaves, in_use_between, in_use_found, slots_left, tag_found, descriptors_in_use-append}
use Rattle.vq_posted.proofs.Members.{is_in-append, distinct_append, distinct_back, distinct_front, distinct_middle, middle_apart}
use Rattle.ring_part.specs.Held.{Held, HasThese, unreaped_of}

-- the descriptors of buffers
abbrev pub locations_of : List Held → List ℕ
locations_of hs = descriptors_in_use (map unreaped_of hs)

-- the same descriptors are in use
pub in_use : (us : List Unreaped) (hs : List Held) → HasThese us hs → (n : ℕ) → is_in n (descriptors_in_use us) ≡ is_in n (locations_of hs)
in_use us [] none n = ap (λ (vs : List Unreaped). is_in n (descriptors_in_use vs)) none
in_use us (h ∷ hs) (found, has) n =
    let mine : List ℕ = h.head ∷ h.others in
    in_use_found h.head (unreaped_of h) us found n ∙ ap (λ (b : Bool). is_in n mine || b) (in_use (without h.head us) hs has n) ∙ sym (is_in-append n mine (locations_of hs))

-- the same slots
pub slots_in : (us : List Unreaped) (hs : List Held) → HasThese us hs → slots_of_all us ≡ slots_of_all (map unreaped_of hs)
slots_in us [] none = ap slots_of_all none
slots_in us (h ∷ hs) (found, has) = omega (arith, slots_left h.head (unreaped_of h) us found, slots_in (without h.head us) hs has)

-- the same tags
pub tags_in : (tag : ℕ) (us : List Unreaped) (hs : List Held) → HasThese us hs → holds_tag tag us ≡ holds_tag tag (map unreaped_of hs)
tags_in tag us [] none = ap (holds_tag tag) none
tags_in tag us (h ∷ hs) (found, has) = tag_found h.head (unreaped_of h) us found tag ∙ ap (λ (b : Bool). eqb h.buffer.tag tag || b) (tags_in tag (without h.head us) hs has)

-- no descriptor comes twice
pub distinct_in : (us : List Unreaped) (hs : List Held) → HasThese us hs → IsTrue (is_distinct (descriptors_in_use us)) → IsTrue (is_distinct (locations_of hs))
distinct_in us [] none distinct = refl
distinct_in us (h ∷ hs) (found, has) distinct =
    let (before, behind, l) = leaves h.head (unreaped_of h) us found in
    let mine : List ℕ = h.head ∷ h.others in
    let front : List ℕ = descriptors_in_use before in
    let back : List ℕ = descriptors_in_use behind in
    let spread : IsTrue (is_distinct (front ++ (mine ++ back)))
    = subst (λ (ns : List ℕ). IsTrue (is_distinct ns)) (ap descriptors_in_use l.all ∙ in_use_between before (unreaped_of h) behind) distinct
    in
    let rest : descriptors_in_use (without h.head us) ≡ front ++ back = ap descriptors_in_use l.others ∙ descriptors_in_use-append before behind in
    distinct_append mine (locations_of hs) (distinct_front mine back (distinct_back front (mine ++ back) spread))
    (distinct_in (without h.head us) hs has (subst (λ (ns : List ℕ). IsTrue (is_distinct ns)) (sym rest) (distinct_middle front mine back spread)))
    (λ n m. sym (in_use (without h.head us) hs has n) ∙ ap (is_in n) rest ∙ middle_apart front mine back spread n m)

-- a descriptor that none of them uses is none of their heads
pub other_heads : (n : ℕ) (hs : List Held) → is_in n (locations_of hs) ≡ false → All (λ (h : Held). n ≡ h.head → ⊥) hs
other_heads n [] out = All-nil (λ (h : Held). n ≡ h.head → ⊥)
other_heads n (h ∷ hs) out =
    let (first, others) = or_parts (eqb h.head n) (is_in n (h.others ++ locations_of hs)) out in
    let (own, rest) = or_parts (is_in n h.others) (is_in n (locations_of hs)) (sym (is_in-append n h.others (locations_of hs)) ∙ others) in
    All-cons (λ (h : Held). n ≡ h.head → ⊥) h hs (λ e. false≢true (sym first ∙ eq-eqb h.head n (sym e))) (other_heads n hs rest)
