-- What the calls answer, and what the output bytes hold afterwards.
use Rattle.std.specs.Prelude.{◌≡◌, ℕ, ◌*◌, ◌/◌, ◌≤◌, List, ◌++◌, length, drop}
use Rattle.std.specs.List.{flat_map}
use Rattle.files.specs.Fields.{be32}
use Rattle.files.specs.Judged.{Rejects, TrueFile}
use Rattle.files.specs.Layout.{file_row}
use Rattle.tables.specs.Made.{Numbers, Refuses}
use Rattle.tables.specs.Rows.{total}
use Rattle.tables.specs.declared.refusals.Refusal.{Refusal}
use Rattle.control.specs.Packing.{InBytes, Packed}

-- Judging a file: 0 where it is true, and otherwise the refusal that judging it gives.
pub data JudgesBytes (file : List ℕ) (answer : ℕ) : Type 0 where
  accepted : TrueFile file → answer ≡ 0 → JudgesBytes file answer
  rejected : (TrueFile file → ⊥) → (reason : Refusal) → Rejects file reason → Packed reason answer → JudgesBytes file answer

-- The numbers of units that make the load, of which there are no others, stand at the front of the output, four bytes each and the
-- high byte first. They add up to the load, and the bytes past them are as before.
pub record WrittenOut (row : List ℕ) (load : ℕ) (before after : List ℕ) : Type 0 where
  pub small : load ≤ 1000000000
  pub room : 4 * length row ≤ length before
  pub numbers : List ℕ
  pub are : Numbers row load numbers
  pub adds : total row numbers ≡ load
  pub only : (other : List ℕ) → Numbers row load other → other ≡ numbers
  pub front : after ≡ flat_map be32 numbers ++ drop (4 * length row) before

-- Making a load from a file. A refusal leaves the output as it was.
pub data MakesBytes (file : List ℕ) (load : ℕ) (before : List ℕ) (answer : ℕ) (after : List ℕ) : Type 0 where
  -- the file is true, and the load is made
  done : TrueFile file → answer ≡ 0 → WrittenOut (file_row file) load before after → MakesBytes file load before answer after
  -- the file is true, and making the load is refused; there is room for a number in each four bytes
  refused : TrueFile file → (reason told : Refusal) → Refuses (file_row file) load (length before / 4) reason → InBytes reason told → Packed told answer → after ≡ before → MakesBytes file load before answer after
  -- the file is not true: the refusal that judging it gives
  rejected : (TrueFile file → ⊥) → (reason : Refusal) → Rejects file reason → Packed reason answer → after ≡ before → MakesBytes file load before answer after
