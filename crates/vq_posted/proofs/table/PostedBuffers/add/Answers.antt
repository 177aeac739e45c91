use Rattle.std.proofs.Common.{◌≡◌, ◌<◌, ◌≤◌, ◌*◌, ◌&&◌, ◌∙◌, ℕ, List, Some, not, length, sym, ap, subst, arith}
use Rattle.std.specs.Prelude.{All}
use Rattle.std.proofs.lemmas.List.{length-set}
use Rattle.vq_common.specs.Queue.{with_buffer}
use Rattle.vq_posted.specs.Free.{is_in, head_of}
use Rattle.vq_posted.specs.Members.{is_member}
use Rattle.vq_posted.specs.Table.{PostedView, unreaped_of, entries}
use Rattle.vq_posted.proofs.Kept.{addable_from, addable_head, addable_below, all_raised, entries_added, kept_added, same_view}
use Rattle.vq_posted.proofs.table.PostedBuffers.add.Goals as goal

pub remove_all-requires : goal.remove_all-requires
remove_all-requires c =
    let a = addable_from _ c.args.self.now c.args.posted c.self.view_is (record { tag = c.requires.tag; some = c.requires.some; few = c.requires.few; lowest = c.requires.lowest; slots = c.requires.slots; room = c.requires.room; readable = c.requires.readable }) in
    let fits : c.self.inside.size ≤ length c.self.inside.locations.items = c.self.invariant.fits in
    subst (λ (ns : List ℕ). All (λ n. n < 64 * length c.self.inside.descriptors) ns) (sym c.as_slice.ensures.value)
    (all_raised c.self.inside.size (64 * length c.self.inside.descriptors) c.args.posted.descriptors.items (omega (arith, c.self.invariant.room)) (addable_below c.self.inside.size (entries 0 c.self.inside.locations.items) c.args.posted a))

pub index_mut-requires : goal.index_mut-requires
index_mut-requires c =
    let a = addable_from _ c.args.self.now c.args.posted c.self.view_is (record { tag = c.requires.tag; some = c.requires.some; few = c.requires.few; lowest = c.requires.lowest; slots = c.requires.slots; room = c.requires.room; readable = c.requires.readable }) in
    let location : c.from-location.result ≡ head_of c.args.posted.descriptors.items = c.from-location.ensures ∙ c.head.ensures ∙ ap head_of c.as_slice-2.ensures.value in
    omega (arith, addable_head c.self.inside.size (entries 0 c.self.inside.locations.items) c.args.posted a, c.self.invariant.fits)

pub invariant_of-self : goal.invariant_of-self
invariant_of-self c =
    let a = addable_from _ c.args.self.now c.args.posted c.self.view_is (record { tag = c.requires.tag; some = c.requires.some; few = c.requires.few; lowest = c.requires.lowest; slots = c.requires.slots; room = c.requires.room; readable = c.requires.readable }) in
    let location : c.from-location.result ≡ head_of c.args.posted.descriptors.items = c.from-location.ensures ∙ c.head.ensures ∙ ap head_of c.as_slice-2.ensures.value in
    kept_added c.self.inside.size c.self.inside.free c.self.inside.descriptors c.self.inside.tags c.remove_all.new.self c.insert.new.self c.self.inside.locations.items c.args.posted c.from-location.result c.self.invariant a location
    (λ n. c.remove_all.ensures.members n ∙ ap (λ (ns : List ℕ). not (is_in n ns) && is_member c.self.inside.descriptors n) c.as_slice.ensures.value) c.remove_all.ensures.room c.insert.ensures.members c.insert.ensures.room

pub returns : goal.returns
returns c =
    let a = addable_from _ c.args.self.now c.args.posted c.self.view_is (record { tag = c.requires.tag; some = c.requires.some; few = c.requires.few; lowest = c.requires.lowest; slots = c.requires.slots; room = c.requires.room; readable = c.requires.readable }) in
    let location : c.from-location.result ≡ head_of c.args.posted.descriptors.items = c.from-location.ensures ∙ c.head.ensures ∙ ap head_of c.as_slice-2.ensures.value in
    same_view c.self.inside.size _ (length c.self.inside.locations.items) _ (with_buffer (unreaped_of c.args.posted) (entries 0 c.self.inside.locations.items)) (length-set c.self.inside.locations.items c.from-location.result (Some c.args.posted))
    (entries_added c.self.inside.size c.self.inside.free c.self.inside.descriptors c.self.inside.tags c.self.inside.locations.items c.args.posted c.from-location.result c.self.invariant a location)
    ∙ ap (λ (v : PostedView). let w : PostedView = record v { unreaped = with_buffer (unreaped_of c.args.posted) v.unreaped } in w) c.self.view_is
