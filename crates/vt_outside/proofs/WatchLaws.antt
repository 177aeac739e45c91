use Rattle.std.proofs.Common.{◌≡◌, ℕ, List, [], ◌++◌, Option, Some, None, sym, ◌∙◌, append_assoc, append-nil}
use Rattle.vt_outside.specs.Watch.{Shows}

-- a watch that was not asked was shown nothing
pub shows_none : (a : Option (List ℕ)) → Shows a [] a
shows_none None = tt
shows_none (Some x) = sym (append-nil x)

-- one text after another
pub shows_then : (a b c : Option (List ℕ)) (x y : List ℕ) → Shows a x b → Shows b y c → Shows a (x ++ y) c
shows_then a b None x y h k = tt
shows_then a None (Some c) x y h k = absurd k
shows_then None (Some b) (Some c) x y h k = absurd h
shows_then (Some a) (Some b) (Some c) x y h k = rw h at k ∙ append_assoc a x y

-- nothing more was shown at the same end
pub shows_same : (a b c : Option (List ℕ)) (x : List ℕ) → Shows a x b → c ≡ b → Shows a x c
shows_same a b c x h e = rw e h
