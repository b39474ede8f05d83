-- The pasts of a book: the calls that were made on it since it was opened, the row that they tell, and the books that they lead to.
use Rattle.std.specs.Prelude.{◌≡◌, ℕ, Bool, true, false, cond, List, [], ◌∷◌, is_ok, Some, None, Ok, MatchBool, Option, Result}
use Rattle.files.specs.Judged.{TrueFile}
use Rattle.files.specs.Layout.{file_row}
use Rattle.tables.specs.declared.refusals.Refusal.{Refusal}
use Rattle.books.specs.declared.book.Book.{Book}
use Rattle.books.specs.Calls.{Admits, Opens, Restores, Withdraws, admit_refusal, open_refusal, withdraw_refusal}
use Rattle.books.specs.Units.{row_with, row_without}

-- A call that was made, with its arguments, and whether it was accepted: an admit of a size, a withdrawal of a size with a strip of so
-- many bytes, a restore of a file's bytes.
pub data Event : Type 0 where
  admit : ℕ → Bool → Event
  withdraw : ℕ → ℕ → Bool → Event
  restore : List ℕ → Bool → Event

-- The row after one more call: a refused call leaves it as it was.
abbrev pub after : Event → List ℕ → List ℕ
after (admit size accepted) row = cond accepted (row_with size row) row
after (withdraw size room accepted) row = cond accepted (row_without size row) row
after (restore bytes accepted) row = cond accepted (file_row bytes) row

-- The units now admitted: the row that the base of the open and the calls since then tell, the latest call first.
abbrev pub told : ℕ → List Event → List ℕ
told base [] = base ∷ []
told base (event ∷ past) = after event (told base past)

-- whether a call is accepted
abbrev pub accepts : Option Refusal → Bool
accepts None = true
accepts (Some reason) = false

-- Whether a call was accepted is as the row before it, and its arguments, decide.
abbrev pub Fair : Event → List ℕ → Type 0
Fair (admit size accepted) row = accepted ≡ accepts (admit_refusal row size)
Fair (withdraw size room accepted) row = accepted ≡ accepts (withdraw_refusal row size room)
Fair (restore bytes accepted) row = MatchBool accepted (TrueFile bytes) (TrueFile bytes → ⊥)

-- So it is of every call of a past, with the row told before it, and of the open.
abbrev pub Honest : ℕ → List Event → Type 0
Honest base [] = open_refusal base ≡ None
Honest base (event ∷ past) = Fair event (told base past) × Honest base past

-- The books that an accepted open of a base and then the calls of a past lead to, each call as its own contract says, with any arguments.
pub data Leads (base : ℕ) : List Event → Book → Type 0 where
  opened : (book : Book) → Opens base (Ok book) → Leads base [] book
  admitted : (past : List Event) (before now : Book) (size : ℕ) (r : Result (Unit {0}) Refusal)
      → Leads base past before → Admits before size r now → Leads base (admit size (is_ok r) ∷ past) now
  withdrawn : (past : List Event) (before now : Book) (size room : ℕ) (r : Result (Unit {0}) Refusal)
      → Leads base past before → Withdraws before size room r now → Leads base (withdraw size room (is_ok r) ∷ past) now
  restored : (past : List Event) (before now : Book) (bytes : List ℕ) (r : Result (Unit {0}) Refusal)
      → Leads base past before → Restores before bytes r now → Leads base (restore bytes (is_ok r) ∷ past) now
