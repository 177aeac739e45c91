use Rattle.std.proofs.Common.{◌≡◌, ◌∙◌, None, length, sym, ap, arith}
use Rattle.std.proofs.lemmas.Bool.{le-ltb}
use Rattle.std.proofs.lemmas.List.{length-replicate}
use Rattle.vq_posted.specs.Table.{entries}
use Rattle.vq_posted.proofs.Entries.{entries_of_none}
use Rattle.vq_posted.proofs.Kept.{kept_empty, same_view}
use Rattle.vq_posted.proofs.table.PostedBuffers.new.Goals as goal

pub invariant_of-result : goal.invariant_of-result
invariant_of-result c =
    let none = c.locations.invariant in
    let long : length c.locations.locations.items ≡ c.locations._location = ap length none ∙ length-replicate c.locations._location None in
    kept_empty 0 c.in_ok-new.field-0 c.in_ok-new-2.field-0 c.locations.locations.items (ap (entries 0) none ∙ entries_of_none 0 c.locations._location) (omega arith) (omega (arith, c.ranges.max.fits)) (omega (arith, c.in_ok-new.ensures.room)) c.in_ok-new-2.ensures.room
    (λ n. c.in_ok-new.ensures.empty n ∙ sym (le-ltb n 0 (omega arith))) c.in_ok-new-2.ensures.empty

pub returns : goal.returns
returns c =
    let none = c.locations.invariant in
    let long : length c.locations.locations.items ≡ c.locations._location = ap length none ∙ length-replicate c.locations._location None in
    same_view 0 (length c.locations.locations.items) c.args.max _ _ (omega arith) (ap (entries 0) none ∙ entries_of_none 0 c.locations._location)
