use Rattle.std.proofs.Common.{◌≡◌, ◌∙◌, ℕ, List, Option, None, length, ap, arith}
use Rattle.std.proofs.lemmas.List.{length-replicate}
use Rattle.vq_posted.specs.Table.{PostedView, entries}
use Rattle.vq_posted.specs.declared.entry.Posted.{Posted}
use Rattle.vq_posted.proofs.Entries.{entries_of_none}
use Rattle.vq_posted.proofs.Kept.{kept_empty, same_view, written_over}
use Rattle.vq_posted.proofs.table.PostedBuffers.start.Goals as goal

pub invariant_of-self : goal.invariant_of-self
invariant_of-self c =
    let old : List (Option Posted) = c.self.inside.locations.items in
    let count : ℕ = length c.as_mut_slice.result.now in
    let same : count ≡ length old = ap length c.as_mut_slice.ensures.value in
    let long : length c.clear-2.new.locations ≡ length old = ap length c.clear-2.ensures ∙ length-replicate count None ∙ same in
    let locations = written_over c.clear-2.new.locations old c.self.inside.locations.len long (omega arith) ∙ c.clear-2.ensures in
    let locations_long = ap length locations ∙ length-replicate count None in
    let greatest : length old ≡ c.args.self.now.greatest = ap (λ (v : PostedView). v.greatest) c.self.view_is in
    kept_empty c.args.size c.fill.new.self c.clear.new.self _ (ap (entries 0) locations ∙ entries_of_none 0 count) (omega (arith, locations_long, c.requires)) (omega (arith, locations_long, c.self.invariant.bound)) (omega (arith, locations_long, c.fill.ensures.room, c.self.invariant.room)) (c.clear.ensures.room ∙ c.self.invariant.room_for_tags)
    c.fill.ensures.members c.clear.ensures.empty

pub returns : goal.returns
returns c =
    let old : List (Option Posted) = c.self.inside.locations.items in
    let count : ℕ = length c.as_mut_slice.result.now in
    let same : count ≡ length old = ap length c.as_mut_slice.ensures.value in
    let long : length c.clear-2.new.locations ≡ length old = ap length c.clear-2.ensures ∙ length-replicate count None ∙ same in
    let locations = written_over c.clear-2.new.locations old c.self.inside.locations.len long (omega arith) ∙ c.clear-2.ensures in
    same_view c.args.size _ c.args.self.now.greatest _ _ (ap length locations ∙ length-replicate count None ∙ same ∙ ap (λ (v : PostedView). v.greatest) c.self.view_is) (ap (entries 0) locations ∙ entries_of_none 0 count)
