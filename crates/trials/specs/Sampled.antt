-- The table that the tests have beside a pair.
use Rattle.std.specs.Prelude.{ℕ, List, [], ◌∷◌, Some, Option}

-- What the units 5, 8 and 12 make.
abbrev pub sampled : List (Option ℕ)
sampled = Some 0 ∷ Some 16 ∷ Some 12 ∷ Some 8 ∷ Some 24 ∷ []
