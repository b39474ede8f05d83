-- What each call on a book answers, and the book that it leaves.
use Rattle.std.specs.Prelude.{◌≡◌, ℕ, ◌<◌, Bool, true, false, cond, ◌&&◌, List, [], ◌∷◌, length, Some, None, Ok, Err, Decides, Option, Result, ◌==◌, nat_le, nat_lt}
use Rattle.files.specs.Judged.{Judges, TrueFile}
use Rattle.files.specs.Layout.{file_entry, file_row}
use Rattle.files.specs.Written.{written}
use Rattle.tables.specs.declared.refusals.Refusal.{Refusal}
use Rattle.tables.specs.declared.refusals.Refusal.TheVariants.{OutOfRange, AlreadyAdmitted, RowFull, NotAdmitted, IsBase, NoRoom, NoMemory}
use Rattle.tables.specs.Rows.{base_of}
use Rattle.books.specs.declared.book.Book.{Book}
use Rattle.books.specs.Books.{row_of, table_of}
use Rattle.books.specs.Units.{Spare, has, row_with, row_without}

-- Why an open is refused: a base is from 1 to 4,096.
abbrev pub open_refusal : ℕ → Option Refusal
open_refusal base = cond (nat_le 1 base && nat_le base 4096) None (Some (OutOfRange base))

-- A book of its base alone: the entry at 0 is 0, and the others are absent.
pub record Opened (base : ℕ) (book : Book) : Type 0 where
  pub row : row_of book ≡ base ∷ []
  pub zero : table_of book 0 ≡ Some 0
  pub absent : (r : ℕ) → 0 < r → table_of book r ≡ None

-- What an open answers where it is refused for this reason, or for none but want of memory.
abbrev pub OpensUnless : Option Refusal → ℕ → Result Book Refusal → Type 0
OpensUnless (Some reason) base r = r ≡ Err reason
OpensUnless None base (Ok book) = Opened base book
OpensUnless None base (Err reason) = reason ≡ NoMemory

abbrev pub Opens : ℕ → Result Book Refusal → Type 0
Opens base r = OpensUnless (open_refusal base) base r

-- A call that is refused for this reason leaves the book as it was; one that is not is done and leaves a book of this row.
abbrev pub Turns : Option Refusal → List ℕ → Book → Result (Unit {0}) Refusal → Book → Type 0
Turns (Some reason) row before r after = (r ≡ Err reason) × (after ≡ before)
Turns None row before r after = (r ≡ Ok tt) × (row_of after ≡ row)

-- Why an admit is refused: a size is from 1 to 65,535, is not in the row yet, and the row has fewer than sixteen units.
abbrev pub admit_refusal : List ℕ → ℕ → Option Refusal
admit_refusal row size =
    cond (nat_le 1 size && nat_le size 65535)
    (cond (has size row) (Some (AlreadyAdmitted size)) (cond (nat_lt (length row) 16) None (Some RowFull)))
    (Some (OutOfRange size))

abbrev pub Admits : Book → ℕ → Result (Unit {0}) Refusal → Book → Type 0
Admits before size r after = Turns (admit_refusal (row_of before) size) (row_with size (row_of before)) before r after

-- Why a withdrawal is refused, where a strip of this many bytes is lent for it: the strip has a byte for each remainder, the base
-- stays, and the size is in the row.
abbrev pub withdraw_refusal : List ℕ → ℕ → ℕ → Option Refusal
withdraw_refusal row size room =
    cond (nat_le (base_of row) room)
    (cond (size == base_of row) (Some (IsBase size)) (cond (has size row) None (Some (NotAdmitted size))))
    (Some (NoRoom (base_of row)))

abbrev pub Withdraws : Book → ℕ → ℕ → Result (Unit {0}) Refusal → Book → Type 0
Withdraws before size room r after =
    Turns (withdraw_refusal (row_of before) size room) (row_without size (row_of before)) before r after

-- Whether an admitted size is a multiple of another; refused where it is not in the row.
abbrev pub Spares : List ℕ → ℕ → Result Bool Refusal → Type 0
Spares row size (Ok spare) = (has size row ≡ true) × Decides spare (Spare row size)
Spares row size (Err reason) = (has size row ≡ false) × (reason ≡ NotAdmitted size)

-- The row and the entries are those that the file lists, and saving the book gives the file's bytes again.
pub record Restored (bytes : List ℕ) (after : Book) : Type 0 where
  pub accepted : TrueFile bytes
  pub row : row_of after ≡ file_row bytes
  pub entries : (r : ℕ) → table_of after r ≡ file_entry bytes r
  pub again : written (row_of after) (table_of after) ≡ bytes

-- A file is restored exactly where it is a true one; any other is refused as its judging says, and leaves the book as it was.
abbrev pub Restores : Book → List ℕ → Result (Unit {0}) Refusal → Book → Type 0
Restores before bytes (Ok done) after = Restored bytes after
Restores before bytes (Err reason) after = Judges {X = Unit {0}} bytes (Err reason) × (after ≡ before)
