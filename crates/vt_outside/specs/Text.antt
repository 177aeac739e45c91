use Rattle.std.specs.Prelude.{◌≡◌, ℕ, List, ◌++◌}

-- the first text is the front of the second
abbrev pub IsPrefixOf : List ℕ → List ℕ → Type 0
IsPrefixOf xs ys = (rest : List ℕ) × (xs ++ rest ≡ ys)
