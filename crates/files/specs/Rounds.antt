-- Writing and reading undo one another.
use Rattle.std.specs.Prelude.{◌≡◌, ℕ, List, Option}
use Rattle.tables.specs.Rows.{Row}
use Rattle.files.specs.Judged.{TrueFile}
use Rattle.files.specs.Layout.{file_entry, file_row}
use Rattle.files.specs.Written.{written}

-- An accepted file lists a row, and it is what writing its row and its entries gives.
pub record WrittenAgain (bytes : List ℕ) : Type 0 where
  pub row : Row (file_row bytes)
  pub again : written (file_row bytes) (file_entry bytes) ≡ bytes

-- The bytes are a true file that gives back the row and the entry at each remainder.
pub record ReadsBack (row : List ℕ) (entry : ℕ → Option ℕ) (bytes : List ℕ) : Type 0 where
  pub accepted : TrueFile bytes
  pub row_back : file_row bytes ≡ row
  pub entries_back : (r : ℕ) → file_entry bytes r ≡ entry r
