-- The table of the units 5, 8 and 12.
use Rattle.std.specs.Prelude.{ℕ, List, [], ◌∷◌, Some, Option}

-- The entry at each remainder by 5.
abbrev pub entries : List (Option ℕ)
entries = Some 0 ∷ Some 16 ∷ Some 12 ∷ Some 8 ∷ Some 24 ∷ []
