-- Where the loads that a row does not make never end.
use Rattle.std.specs.Prelude.{◌≡◌, ℕ, ◌%◌, ◌<◌, List}
use Rattle.tables.specs.declared.refusals.Refusal.{Refusal}
use Rattle.tables.specs.declared.refusals.Refusal.TheVariants.{Endless}
use Rattle.tables.specs.Missing.{MissingAbove}
use Rattle.tables.specs.Rows.{Makes, base_of}

-- the row makes a load of remainder r
pub record Reaches (row : List ℕ) (r : ℕ) : Type 0 where
  pub load : ℕ
  pub makes : Makes row load
  pub leaves : load % base_of row ≡ r

-- The loads that a row does not make never end: the reason names the lowest remainder of which it makes none, and above each load
-- there is one more that it does not make.
pub record RowUnending (row : List ℕ) (reason : Refusal) : Type 0 where
  pub remainder : ℕ
  pub named : reason ≡ Endless remainder
  pub below : remainder < base_of row
  pub absent : Reaches row remainder → ⊥
  pub before : (k : ℕ) → k < remainder → Reaches row k
  pub more : (n : ℕ) → MissingAbove (Makes row) n
