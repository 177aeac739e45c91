use Rattle.std.proofs.Common.{◌≡◌, ◌<◌, ◌≤◌, ◌∙◌, ℕ, List, Option, Some, None, length, get_or, sym, ap, arith}
use Rattle.std.specs.Prelude.{option_map}
use Rattle.std.proofs.lemmas.Bool.{ltb-true, ltb-false}
use Rattle.std.proofs.lemmas.List.{get_or_default, get_or_past}
use Rattle.vq_common.specs.Queue.{unreaped_with}
use Rattle.vq_posted.specs.Table.{PostedView, entries, entry_at, found_of}
use Rattle.vq_posted.specs.declared.entry.Posted.{Posted}
use Rattle.vq_posted.proofs.Entries.{entry_with}
use Rattle.vq_posted.proofs.table.PostedBuffers.find.Goals as goal

-- what is told of the buffer at a location
told : (locations read : List (Option Posted)) (id : ℕ) (v : PostedView) (o : Option Posted) → read ≡ locations → entries 0 locations ≡ v.unreaped → get_or read id None ≡ o
    → found_of (option_map (entry_at id) o) ≡ found_of (unreaped_with id v.unreaped)
told locations read id v o same view is =
    ap (λ (q : Option Posted). found_of (option_map (entry_at id) q)) (sym is ∙ ap (λ (ps : List (Option Posted)). get_or ps id None) same)
    ∙ ap found_of (sym (entry_with locations id 0 id (omega arith)))
    ∙ ap (λ us. found_of (unreaped_with id us)) view

-- a location that was read
read_at : (read : List (Option Posted)) (id : ℕ) (now o : Option Posted) → id < length read → now ≡ get_or read id now → now ≡ o → get_or read id None ≡ o
read_at read id now o inside is e = get_or_default read id None now inside ∙ sym is ∙ e

pub returns-in_err-posted : goal.returns-in_err-posted
returns-in_err-posted c =
    let read : List (Option Posted) = c.deref.result.now in
    let past : length read ≤ c.args.id = ltb-false c.args.id (length read) (sym c.in_err-posted.ensures.lookup.0) in
    c.from_residual.ensures
    ∙ told c.self.inside.locations.items read c.args.id c.args.self.now None c.deref.ensures.value (ap (λ (v : PostedView). v.unreaped) c.self.view_is) (get_or_past read c.args.id None past)

pub returns-in-Some : goal.returns-in-Some
returns-in-Some c =
    let read : List (Option Posted) = c.deref.result.now in
    let inside : c.args.id < length read = ltb-true c.args.id (length read) (sym c.in_ok-posted.ensures.lookup.0) in
    told c.self.inside.locations.items read c.args.id c.args.self.now (Some c.in-Some.posted) c.deref.ensures.value (ap (λ (v : PostedView). v.unreaped) c.self.view_is)
    (read_at read c.args.id c.in_ok-posted.field-0.now _ inside c.in_ok-posted.ensures.lookup.1 c.in-Some.is)

pub returns-in-None : goal.returns-in-None
returns-in-None c =
    let read : List (Option Posted) = c.deref.result.now in
    let inside : c.args.id < length read = ltb-true c.args.id (length read) (sym c.in_ok-posted.ensures.lookup.0) in
    told c.self.inside.locations.items read c.args.id c.args.self.now None c.deref.ensures.value (ap (λ (v : PostedView). v.unreaped) c.self.view_is)
    (read_at read c.args.id c.in_ok-posted.field-0.now _ inside c.in_ok-posted.ensures.lookup.1 c.in-None.is)
