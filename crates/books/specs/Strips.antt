-- What is left of a strip of bytes that was lent for marks.
use Rattle.std.specs.Prelude.{◌≡◌, ℕ, List, ◌++◌, drop, replicate, Err, Result, ◌≢◌}
use Rattle.tables.specs.declared.refusals.Refusal.{Refusal}
use Rattle.tables.specs.declared.refusals.Refusal.TheVariants.{NoRoom}

-- The first m bytes are 0, and the others as they were.
abbrev pub Cleared : ℕ → List ℕ → List ℕ → Type 0
Cleared m before after = after ≡ replicate m 0 ++ drop m before

-- A strip that is too short is as it was; any other is cleared, whatever the call answered and whatever bytes the strip came with.
pub record StripLeft (m : ℕ) (before after : List ℕ) (r : Result (Unit {0}) Refusal) : Type 0 where
  pub short : r ≡ Err (NoRoom m) → after ≡ before
  pub cleared : (r ≢ Err (NoRoom m)) → Cleared m before after
