-- What the check of a file's entries answers.
use Rattle.std.specs.Prelude.{ℕ, ◌<◌, List, Option}
use Rattle.tables.specs.Rules.{Rule}

-- r is the lowest remainder at which one of the four rules fails.
pub record FirstFalse (m : ℕ) (others : List ℕ) (entry : ℕ → Option ℕ) (r : ℕ) : Type 0 where
  pub below : r < m
  pub before : (k : ℕ) → k < r → Rule m others entry k
  pub fails : Rule m others entry r → ⊥
