-- What the fields of the posted buffers keep.
use Rattle.std.proofs.Common.{◌≡◌, ℕ, ◌+◌, ◌-◌, ◌*◌, ◌^◌, ◌<◌, ◌≤◌, List, [], ◌++◌, Bool, true, false, not, ◌||◌, ◌&&◌, eqb, ltb, length, take, drop, filter, get_or, Option, Some, None, refl, sym, ◌∙◌, ap, subst, arith}
use Rattle.std.specs.Prelude.{IsTrue, All, IsSome, slice_set, option_map}
use Rattle.std.proofs.lemmas.List.{length-set}
use Rattle.std.proofs.lemmas.List.Elements.{filter_agree, All-nil}
use Rattle.std.proofs.lemmas.Bool.{lt-ltb, false≢true}
use Rattle.std.proofs.lemmas.Grind.{common_steps}
use Rattle.vq_common.specs.Queue.{Unreaped, slots_of_all, with_buffer, unreaped_with, without, holds_tag}
use Rattle.vq_posted.specs.Free.{head_of, descriptors_in_use, is_in, numbers, free_descriptors}
use Rattle.vq_posted.specs.Members.{is_member, members}
use Rattle.vq_posted.specs.Order.{IsBuffer, IsInOrder, ids_rise}
use Rattle.vq_posted.specs.Table.{entry_at, unreaped_of, entries, is_free, IsKept, PostedView}
use Rattle.vq_posted.specs.declared.entry.Posted.{Posted}
use Rattle.vq_posted.proofs.Members.{all_at}
use Rattle.vq_posted.proofs.Numbers.{filter_below}
use Rattle.vq_posted.proofs.Buffers.{in_order_joined, in_order_left, slots_joined, slots_left, found_id, head_is_in, none_from_map, none_with_free_id, lowest_free-apart, tag_joined, tag_left, in_use_joined, in_use_left, lowest_free-below, lowest_free-head, own_below, found_in_order}
use Rattle.vq_posted.proofs.Entries.{entries_rise, entry_with, entries_without, entries_with}

and_true : (b : Bool) → (b && not false) ≡ b
and_true true = refl
and_true false = refl

and_moved : (a b c : Bool) → (not a && (b && not c)) ≡ (b && not (a || c))
and_moved true true c = refl
and_moved true false c = refl
and_moved false b c = refl

or_moved : (a b c : Bool) → (a ≡ true → b ≡ true) → (a || (b && not c)) ≡ (b && not (not a && c))
or_moved true b c h = sym (and_true b ∙ h refl)
or_moved false b c h = refl

-- the members of the set are the free descriptors
pub members_are_free : (size free : ℕ) (words tags : List ℕ) (locations : List (Option Posted)) → IsKept size free words tags locations → members words ≡ free_descriptors size (entries 0 locations)
members_are_free size free words tags locations k =
    let us : List Unreaped = entries 0 locations in
    let fits : size ≤ length locations = k.fits in
    let room : length locations ≤ 64 * length words = k.room in
    let all : size + (64 * length words - size) ≡ 64 * length words = omega arith in
    filter_agree (is_member words) (is_free size us) k.descriptors (numbers 0 (64 * length words))
    ∙ ap (λ (n : ℕ). filter (is_free size us) (numbers 0 n)) (sym all)
    ∙ filter_below (λ n. not (is_in n (descriptors_in_use us))) size 0 size (64 * length words - size) (omega arith)

-- no buffers yet
pub kept_empty : (size : ℕ) (words tags : List ℕ) (locations : List (Option Posted)) → entries 0 locations ≡ [] → size ≤ length locations → length locations < 2 ^ 16 → length locations ≤ 64 * length words → length tags ≡ 1024
    → ((n : ℕ) → is_member words n ≡ ltb n size) → ((tag : ℕ) → is_member tags tag ≡ false) → IsKept size size words tags locations
kept_empty size words tags locations none fits bound room room_for_tags all free_tags =
    let order : IsInOrder size [] = record { each = All-nil IsBuffer; below = All-nil (λ n. n < size); distinct = refl; slots = omega arith; ids = refl; tags = refl } in
    record {
      order = subst (IsInOrder size) (sym none) order;
      fits = fits;
      bound = bound;
      free = omega (arith, ap slots_of_all none);
      room = room;
      room_for_tags = room_for_tags;
      descriptors = λ n. all n ∙ sym (and_true (ltb n size)) ∙ ap (λ (us : List Unreaped). is_free size us n) (sym none);
      tags = λ tag low. free_tags tag ∙ ap (holds_tag tag) (sym none);
    }

-- what a buffer that is added must be
pub record IsAddable (size : ℕ) (us : List Unreaped) (p : Posted) : Type 0 where
  pub tag : holds_tag p.tag us ≡ false
  pub some : 1 ≤ length p.descriptors.items
  pub few : length p.descriptors.items ≤ 8
  pub lowest : p.descriptors.items ≡ take (length p.descriptors.items) (free_descriptors size us)
  pub slots : length p.descriptors.items ≤ p.slots
  pub room : p.slots ≤ size - slots_of_all us
  pub readable : p.readable ≤ 8192

-- its head is below the size
pub addable_head : (size : ℕ) (us : List Unreaped) (p : Posted) → IsAddable size us p → head_of p.descriptors.items < size
addable_head size us p a =
    let count : ℕ = length p.descriptors.items in
    let some : 1 ≤ length p.descriptors.items = a.some in
    subst (λ (ns : List ℕ). head_of ns < size) (sym a.lowest) (lowest_free-head size count us (subst (λ (ns : List ℕ). 1 ≤ length ns) a.lowest some))

-- its descriptors are below the size
pub addable_below : (size : ℕ) (us : List Unreaped) (p : Posted) → IsAddable size us p → All (λ n. n < size) p.descriptors.items
addable_below size us p a = subst (λ (ns : List ℕ). All (λ n. n < size) ns) (sym a.lowest) (lowest_free-below size (length p.descriptors.items) us)

-- its location is free
addable_location : (size free : ℕ) (words tags : List ℕ) (locations : List (Option Posted)) (p : Posted) (location : ℕ) → IsKept size free words tags locations → IsAddable size (entries 0 locations) p
    → location ≡ head_of p.descriptors.items → get_or locations location None ≡ None
addable_location size free words tags locations p location k a e =
    let us : List Unreaped = entries 0 locations in
    let out : is_in location (descriptors_in_use us) ≡ false
    = lowest_free-apart size (length p.descriptors.items) us location
    (subst (λ (ns : List ℕ). is_in location ns ≡ true) a.lowest (ap (λ (n : ℕ). is_in n p.descriptors.items) e ∙ head_is_in p.descriptors.items a.some))
    in
    none_from_map (entry_at location) (get_or locations location None) (sym (entry_with locations location 0 location (omega arith)) ∙ none_with_free_id size location us k.order out)

-- the list once it is added
pub entries_added : (size free : ℕ) (words tags : List ℕ) (locations : List (Option Posted)) (p : Posted) (location : ℕ) → IsKept size free words tags locations → IsAddable size (entries 0 locations) p
    → location ≡ head_of p.descriptors.items → entries 0 (slice_set locations location (Some p)) ≡ with_buffer (unreaped_of p) (entries 0 locations)
entries_added size free words tags locations p location k a e =
    let fits : size ≤ length locations = k.fits in
    let low : head_of p.descriptors.items < size = addable_head size (entries 0 locations) p a in
    entries_with locations p location 0 location (omega arith) (omega arith) (addable_location size free words tags locations p location k a e)
    ∙ ap (λ (id : ℕ). with_buffer (entry_at id p) (entries 0 locations)) e

-- a buffer is added
pub kept_added : (size free : ℕ) (words tags words2 tags2 : List ℕ) (locations : List (Option Posted)) (p : Posted) (location : ℕ) → IsKept size free words tags locations
    → IsAddable size (entries 0 locations) p → location ≡ head_of p.descriptors.items
    → ((n : ℕ) → is_member words2 n ≡ (not (is_in n p.descriptors.items) && is_member words n)) → length words2 ≡ length words
    → ((n : ℕ) → is_member tags2 n ≡ (eqb p.tag n || is_member tags n)) → length tags2 ≡ length tags
    → IsKept size (free - p.slots) words2 tags2 (slice_set locations location (Some p))
kept_added size free words tags words2 tags2 locations p location k a e fewer words_room more tags_room =
    let us : List Unreaped = entries 0 locations in
    let u : Unreaped = unreaped_of p in
    let list : entries 0 (slice_set locations location (Some p)) ≡ with_buffer u us = entries_added size free words tags locations p location k a e in
    let buffer : IsBuffer u = record { some = a.some; few = a.few; id = refl; slots = a.slots; readable = a.readable } in
    let rise : IsTrue (ids_rise (with_buffer u us)) = subst (λ (ws : List Unreaped). IsTrue (ids_rise ws)) list (entries_rise 0 (slice_set locations location (Some p))) in
    let long : length (slice_set locations location (Some p)) ≡ length locations = length-set locations location (Some p) in
    let fits : size ≤ length locations = k.fits in
    let room : length locations ≤ 64 * length words = k.room in
    let slots : p.slots ≤ size - slots_of_all us = a.room in
    let whole : free + slots_of_all us ≡ size = k.free in
    let both : slots_of_all (with_buffer u us) ≡ p.slots + slots_of_all us = slots_joined u us in
    let tags_long : length tags ≡ 1024 = k.room_for_tags in
    record {
      order = subst (IsInOrder size) (sym list) (in_order_joined size u us k.order buffer a.lowest a.room a.tag rise);
      fits = omega arith;
      bound = omega (arith, k.bound);
      free = omega (arith, ap slots_of_all list);
      room = omega arith;
      room_for_tags = omega arith;
      descriptors = λ n.
          fewer n
          ∙ ap (λ (b : Bool). not (is_in n p.descriptors.items) && b) (k.descriptors n)
          ∙ and_moved (is_in n p.descriptors.items) (ltb n size) (is_in n (descriptors_in_use us))
          ∙ ap (λ (b : Bool). ltb n size && not b) (sym (in_use_joined u us n))
          ∙ ap (λ (ws : List Unreaped). is_free size ws n) (sym list);
      tags = λ tag low.
          more tag
          ∙ ap (λ (b : Bool). eqb p.tag tag || b) (k.tags tag low)
          ∙ sym (tag_joined u us tag)
          ∙ ap (holds_tag tag) (sym list);
    }

-- the buffer with an id, where its location has one
pub entry_found : (locations : List (Option Posted)) (id : ℕ) (p : Posted) → get_or locations id None ≡ Some p → unreaped_with id (entries 0 locations) ≡ Some (entry_at id p)
entry_found locations id p e = entry_with locations id 0 id (omega arith) ∙ ap (option_map (entry_at id)) e

-- a buffer is removed
pub kept_removed : (size free : ℕ) (words tags words2 tags2 : List ℕ) (locations : List (Option Posted)) (p : Posted) (id : ℕ) → IsKept size free words tags locations
    → get_or locations id None ≡ Some p
    → ((n : ℕ) → is_member words2 n ≡ (is_in n p.descriptors.items || is_member words n)) → length words2 ≡ length words
    → ((n : ℕ) → is_member tags2 n ≡ (not (eqb p.tag n) && is_member tags n)) → length tags2 ≡ length tags
    → IsKept size (free + p.slots) words2 tags2 (slice_set locations id None)
kept_removed size free words tags words2 tags2 locations p id k e more words_room fewer tags_room =
    let us : List Unreaped = entries 0 locations in
    let u : Unreaped = entry_at id p in
    let found : unreaped_with id us ≡ Some u = entry_found locations id p e in
    let list : entries 0 (slice_set locations id None) ≡ without id us = entries_without locations id 0 id (omega arith) in
    let rise : IsTrue (ids_rise (without id us)) = subst (λ (ws : List Unreaped). IsTrue (ids_rise ws)) list (entries_rise 0 (slice_set locations id None)) in
    let long : length (slice_set locations id None) ≡ length locations = length-set locations id None in
    let fits : size ≤ length locations = k.fits in
    let room : length locations ≤ 64 * length words = k.room in
    let whole : free + slots_of_all us ≡ size = k.free in
    let both : slots_of_all us ≡ p.slots + slots_of_all (without id us) = slots_left id u us found in
    let tags_long : length tags ≡ 1024 = k.room_for_tags in
    record {
      order = subst (IsInOrder size) (sym list) (in_order_left size id u us k.order found rise);
      fits = omega arith;
      bound = omega (arith, k.bound);
      free = omega (arith, ap slots_of_all list);
      room = omega arith;
      room_for_tags = omega arith;
      descriptors = λ n.
          more n
          ∙ ap (λ (b : Bool). is_in n p.descriptors.items || b) (k.descriptors n)
          ∙ or_moved (is_in n p.descriptors.items) (ltb n size) (is_in n (descriptors_in_use us)) (λ t. lt-ltb n size (all_at (λ n. n < size) p.descriptors.items n (own_below size id u us k.order found) t))
          ∙ ap (λ (b : Bool). ltb n size && not b) (sym (in_use_left size id u us k.order found n))
          ∙ ap (λ (ws : List Unreaped). is_free size ws n) (sym list);
      tags = λ tag low.
          fewer tag
          ∙ ap (λ (b : Bool). not (eqb p.tag tag) && b) (k.tags tag low)
          ∙ sym (tag_left size id u us k.order found tag)
          ∙ ap (holds_tag tag) (sym list);
    }

-- the same of another view
pub addable_from : (v w : PostedView) (p : Posted) → v ≡ w → IsAddable w.size w.unreaped p → IsAddable v.size v.unreaped p
addable_from v w p e a = subst (λ (x : PostedView). IsAddable x.size x.unreaped p) (sym e) a

pub all_raised : (low high : ℕ) (ns : List ℕ) → low ≤ high → All (λ n. n < low) ns → All (λ n. n < high) ns
all_raised low high ns h all = λ k d inside. omega (arith, all k d inside)

-- an id that names a buffer has a location
some_value : {X : Type 0} (o : Option X) → IsSome o → (x : X) × (o ≡ Some x)
some_value None h = absurd (false≢true h)
some_value (Some x) h = (x, refl)

pub id_below : (size free : ℕ) (words tags : List ℕ) (locations : List (Option Posted)) (id : ℕ) → IsKept size free words tags locations → IsSome (unreaped_with id (entries 0 locations)) → id < length locations
id_below size free words tags locations id k some =
    let (u, e) = some_value (unreaped_with id (entries 0 locations)) some in
    let (buffer, low) = found_in_order size id (entries 0 locations) u k.order e in
    let is : u.id ≡ id = found_id id (entries 0 locations) u e in
    let fits : size ≤ length locations = k.fits in
    omega arith

-- what the parts of a view are
pub same_view : (size greatest greatest2 : ℕ) (us us2 : List Unreaped) → greatest ≡ greatest2 → us ≡ us2
    → ◌≡◌ {A = PostedView} (record { size = size; greatest = greatest; unreaped = us }) (record { size = size; greatest = greatest2; unreaped = us2 })
same_view size greatest greatest2 us us2 e f =
    ap (λ (g : ℕ). let v : PostedView = record { size = size; greatest = g; unreaped = us } in v) e
    ∙ ap (λ (ws : List Unreaped). let v : PostedView = record { size = size; greatest = greatest2; unreaped = ws } in v) f

-- a list that is written over one of the same length
pub written_over : {X : Type 0} (xs ys : List X) (n : ℕ) → length xs ≡ length ys → n ≡ length ys → take n (xs ++ drop (length xs) ys) ≡ xs
written_over xs ys n e h = grind (arith, common_steps)
