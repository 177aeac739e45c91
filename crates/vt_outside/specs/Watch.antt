use Rattle.std.specs.Prelude.{◌≡◌, ℕ, List, ◌++◌, Option, Some, None}

-- where a watch tells afterwards, it told before, and the text was added at the end
abbrev pub Shows : Option (List ℕ) → List ℕ → Option (List ℕ) → Type 0
Shows old text None = Unit {0}
Shows None text (Some new) = ⊥
Shows (Some old) text (Some new) = new ≡ old ++ text
