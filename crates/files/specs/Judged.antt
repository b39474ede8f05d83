-- Which files are accepted, and why the others are refused.
use Rattle.std.specs.Prelude.{ℕ, List, Ok, Err, Result}
use Rattle.tables.specs.Rows.{Table}
use Rattle.tables.specs.declared.refusals.Refusal.{Refusal}
use Rattle.tables.specs.declared.refusals.Refusal.TheVariants.{Malformed, Untrue}
use Rattle.files.specs.Checks.{FirstFalse}
use Rattle.files.specs.Faults.{Fault}
use Rattle.files.specs.Layout.{WellFormed, file_base, file_entry, file_others, file_row}

-- A true file is well-formed, and its entries are the true table of its row.
pub record TrueFile (bytes : List ℕ) : Type 0 where
  pub formed : WellFormed bytes
  pub table : Table (file_row bytes) (file_entry bytes)

-- Why a file is refused: its first fault, or else the lowest remainder at which one of the four rules fails.
pub data Rejects (bytes : List ℕ) : Refusal → Type 0 where
  malformed : (offset : ℕ) → Fault bytes offset → Rejects bytes (Malformed offset)
  untrue : (r : ℕ) → WellFormed bytes → FirstFalse (file_base bytes) (file_others bytes) (file_entry bytes) r → Rejects bytes (Untrue r)

-- The verdict on a file: accepted exactly where it is true.
abbrev pub Judges : {X : Type 0} → List ℕ → Result X Refusal → Type 0
Judges bytes (Ok x) = TrueFile bytes
Judges bytes (Err reason) = Rejects bytes reason × (TrueFile bytes → ⊥)
