-- What it says that no test of a refusal holds.
use Rattle.std.proofs.Common.{◌≡◌, List, [], ◌∷◌, Bool, true, false, None, refl, sym}
use Rattle.std.proofs.lemmas.Option.{none-some}
use Rattle.vt_types.specs.declared.reply.Why.{Why}
use Rattle.state_table.specs.Refusal.{first_of}

abbrev pub NoneHolds : List (Bool × Why) → Type 0
NoneHolds [] = Unit {0}
NoneHolds ((holds, reason) ∷ others) = (holds ≡ false) × NoneHolds others

pub none_holds : (tests : List (Bool × Why)) → first_of tests ≡ None → NoneHolds tests
none_holds [] is = tt
none_holds ((true, reason) ∷ others) is = absurd (none-some reason (sym is))
none_holds ((false, reason) ∷ others) is = (refl, none_holds others is)
