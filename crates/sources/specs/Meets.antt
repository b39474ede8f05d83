-- Meets: the loads that two tables have in common.
use Rattle.std.specs.Prelude.{◌≡◌, ℕ, max, cond, Some, None, Option, ◌==◌}
use Rattle.tables.specs.Tables.{Contains}
use Rattle.tables.specs.declared.refusals.Refusal.{Refusal}
use Rattle.tables.specs.declared.refusals.Refusal.TheVariants.{BasesDiffer}

-- The greater of two entries where both are present, otherwise absent.
abbrev pub later : Option ℕ → Option ℕ → Option ℕ
later None y = None
later (Some x) None = None
later (Some x) (Some y) = Some (max x y)

-- The entries of a meet, of two bases and their entries: at equal bases the later ones, at others the first table's.
abbrev pub met : ℕ → ℕ → (ℕ → Option ℕ) → (ℕ → Option ℕ) → ℕ → Option ℕ
met m n first second r = cond (m == n) (later (first r) (second r)) (first r)

-- Two tables meet: their bases are equal, and the meet contains a load exactly where both do.
pub record Meets (m n : ℕ) (first second : ℕ → Option ℕ) : Type 0 where
  pub same : m ≡ n
  pub by_first : (load : ℕ) → Contains m (met m n first second) load → Contains m first load
  pub by_second : (load : ℕ) → Contains m (met m n first second) load → Contains n second load
  pub by_meet : (load : ℕ) → Contains m first load → Contains n second load → Contains m (met m n first second) load

-- Two tables do not meet: their bases differ, and the reason names the second.
pub record Unmet (m n : ℕ) (reason : Refusal) : Type 0 where
  pub named : reason ≡ BasesDiffer n
  pub differ : m ≡ n → ⊥
