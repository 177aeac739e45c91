use Rattle.std.proofs.Common.{◌≡◌, ◌<◌, ◌*◌, ◌+◌, ◌||◌, ◌∙◌, ℕ, List, Option, Some, None, length, get_or, sym, ap, subst, arith}
use Rattle.std.specs.Prelude.{All, IsSome, slice_set}
use Rattle.std.proofs.lemmas.List.{length-set, get_or_default}
use Rattle.vq_common.specs.Queue.{without, unreaped_with}
use Rattle.vq_posted.specs.Free.{is_in}
use Rattle.vq_posted.specs.Members.{is_member}
use Rattle.vq_posted.specs.Table.{PostedView, entry_at, entries, IsKept}
use Rattle.vq_posted.specs.declared.entry.Posted.{Posted}
use Rattle.vq_posted.proofs.Buffers.{slots_left, own_below}
use Rattle.vq_posted.proofs.Entries.{entries_without}
use Rattle.vq_posted.proofs.Kept.{id_below, entry_found, kept_removed, all_raised, same_view}
use Rattle.vq_posted.proofs.table.PostedBuffers.remove.Goals as goal

abbrev view_of : ℕ → List (Option Posted) → PostedView
view_of size locations = record { size = size; greatest = length locations; unreaped = entries 0 locations }

-- the location of an id that names a buffer
location_inside : (size free : ℕ) (words tags : List ℕ) (locations : List (Option Posted)) (location id : ℕ) (v : PostedView) → IsKept size free words tags locations → view_of size locations ≡ v → location ≡ id
    → IsSome (unreaped_with id v.unreaped) → location < length locations
location_inside size free words tags locations location id v k is e some =
    let here : IsSome (unreaped_with id (entries 0 locations)) = subst (λ (w : PostedView). IsSome (unreaped_with id w.unreaped)) (sym is) some in
    omega (arith, id_below size free words tags locations id k here)

-- the buffer that was taken out of it
taken_from : (locations : List (Option Posted)) (location : ℕ) (now taken : Option Posted) (p : Posted) → location < length locations → now ≡ get_or locations location now → taken ≡ now → taken ≡ Some p
    → get_or locations location None ≡ Some p
taken_from locations location now taken p inside is same some = get_or_default locations location None now inside ∙ sym is ∙ sym same ∙ some

pub index_mut-requires : goal.index_mut-requires
index_mut-requires c =
    omega (arith, location_inside c.self.inside.size c.self.inside.free c.self.inside.descriptors c.self.inside.tags c.self.inside.locations.items c.from.result c.args.id c.args.self.now c.self.invariant c.self.view_is c.from.ensures c.requires)

pub overflow_add-self : goal.overflow_add-self
overflow_add-self c =
    let locations : List (Option Posted) = c.self.inside.locations.items in
    let inside = location_inside c.self.inside.size c.self.inside.free c.self.inside.descriptors c.self.inside.tags locations c.from.result c.args.id c.args.self.now c.self.invariant c.self.view_is c.from.ensures c.requires in
    let found = entry_found locations c.from.result c.in-Some.posted (taken_from locations c.from.result _ _ c.in-Some.posted inside c.index_mut.ensures.value c.take.ensures.value c.in-Some.is) in
    omega (arith, slots_left c.from.result (entry_at c.from.result c.in-Some.posted) (entries 0 locations) found, c.self.invariant.free, c.self.invariant.fits, c.self.invariant.bound)

pub insert_all-requires : goal.insert_all-requires
insert_all-requires c =
    let locations : List (Option Posted) = c.self.inside.locations.items in
    let inside = location_inside c.self.inside.size c.self.inside.free c.self.inside.descriptors c.self.inside.tags locations c.from.result c.args.id c.args.self.now c.self.invariant c.self.view_is c.from.ensures c.requires in
    let found = entry_found locations c.from.result c.in-Some.posted (taken_from locations c.from.result _ _ c.in-Some.posted inside c.index_mut.ensures.value c.take.ensures.value c.in-Some.is) in
    subst (λ (ns : List ℕ). All (λ n. n < 64 * length c.self.inside.descriptors) ns) (sym c.as_slice.ensures.value)
    (all_raised c.self.inside.size (64 * length c.self.inside.descriptors) c.in-Some.posted.descriptors.items (omega (arith, c.self.invariant.room, c.self.invariant.fits)) (own_below c.self.inside.size c.from.result _ (entries 0 locations) c.self.invariant.order found))

pub invariant_of-self : goal.invariant_of-self
invariant_of-self c =
    let locations : List (Option Posted) = c.self.inside.locations.items in
    let inside = location_inside c.self.inside.size c.self.inside.free c.self.inside.descriptors c.self.inside.tags locations c.from.result c.args.id c.args.self.now c.self.invariant c.self.view_is c.from.ensures c.requires in
    let was = taken_from locations c.from.result _ _ c.in-Some.posted inside c.index_mut.ensures.value c.take.ensures.value c.in-Some.is in
    subst (λ (o : Option Posted). IsKept c.self.inside.size (c.self.inside.free + c.in-Some.posted.slots) c.insert_all.new.self c.remove.new.self (slice_set locations c.from.result o)) (sym c.take.ensures.after)
    (kept_removed c.self.inside.size c.self.inside.free c.self.inside.descriptors c.self.inside.tags c.insert_all.new.self c.remove.new.self locations c.in-Some.posted c.from.result c.self.invariant was
    (λ n. c.insert_all.ensures.members n ∙ ap (λ (ns : List ℕ). is_in n ns || is_member c.self.inside.descriptors n) c.as_slice.ensures.value) c.insert_all.ensures.room c.remove.ensures.members c.remove.ensures.room)

-- the view without the buffer
gone : (size : ℕ) (locations : List (Option Posted)) (id id2 : ℕ) (o : Option Posted) (v : PostedView) → id ≡ id2 → o ≡ None → view_of size locations ≡ v
    → view_of size (slice_set locations id o) ≡ (record v { unreaped = without id2 v.unreaped })
gone size locations id id2 o v e f is =
    ap (λ (q : Option Posted). view_of size (slice_set locations id q)) f
    ∙ same_view size _ (length locations) _ (without id (entries 0 locations)) (length-set locations id None) (entries_without locations id 0 id (omega arith))
    ∙ ap (λ (k : ℕ). let w : PostedView = record { size = size; greatest = length locations; unreaped = without k (entries 0 locations) } in w) e
    ∙ ap (λ (v : PostedView). let w : PostedView = record v { unreaped = without id2 v.unreaped } in w) is

pub returns-in-Some : goal.returns-in-Some
returns-in-Some c = gone c.self.inside.size c.self.inside.locations.items c.from.result c.args.id c.take.new.self c.args.self.now c.from.ensures c.take.ensures.after c.self.view_is

pub returns-in_default : goal.returns-in_default
returns-in_default c = gone c.self.inside.size c.self.inside.locations.items c.from.result c.args.id c.take.new.self c.args.self.now c.from.ensures c.take.ensures.after c.self.view_is
