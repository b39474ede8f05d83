-- What a call answers that makes a load from the units of a file.
use Rattle.std.specs.Prelude.{◌≡◌, ℕ, List, Err, Result}
use Rattle.tables.specs.Made.{Make}
use Rattle.tables.specs.declared.refusals.Refusal.{Refusal}
use Rattle.files.specs.Judged.{Rejects, TrueFile}
use Rattle.files.specs.Layout.{file_row}

-- The answer, and what the lent places hold before and after.
pub data MakeFrom (bytes : List ℕ) (load : ℕ) (before : List ℕ) (answer : Result ℕ Refusal) (after : List ℕ) : Type 0 where
  -- the file is true: just what making the load from its row answers
  accepted : TrueFile bytes → Make (file_row bytes) load before answer after → MakeFrom bytes load before answer after
  -- it is not: the refusal that judging it gives, and nothing is touched
  refused : (TrueFile bytes → ⊥) → (reason : Refusal) → answer ≡ Err reason → Rejects bytes reason → after ≡ before → MakeFrom bytes load before answer after
