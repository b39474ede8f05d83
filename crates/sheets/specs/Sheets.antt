-- What stands in a sheet, and what its lines print together.
use Rattle.std.specs.Prelude.{◌≡◌, ℕ, ◌+◌, ◌<◌, ◌≤◌, List, [], ◌∷◌, ◌++◌, length, None, Err, Result, ◌≢◌}
use Rattle.std.specs.Option.{option_map}
use Rattle.tables.specs.declared.refusals.Refusal.{Refusal}
use Rattle.tables.specs.declared.refusals.Refusal.TheVariants.{NoMemory, NoRoom, Unreadable}
use Rattle.books.specs.Books.{row_of}
use Rattle.sheets.specs.declared.answers.Answer.{Answer}
use Rattle.sheets.specs.declared.sheet.Sheet.{Sheet}
use Rattle.sheets.specs.Answers.{Printed}
use Rattle.sheets.specs.Lines.{Standing, Answers}
use Rattle.sheets.specs.Splitting.{lines_of}

-- the row of the book that a sheet keeps
abbrev pub standing : Sheet → Standing
standing sheet = option_map row_of sheet.book

-- What holds of an outcome unless memory ran out.
abbrev pub UnlessMemory : Result Answer Refusal → Type 0 → Type 0
UnlessMemory outcome Holds = (outcome ≢ Err NoMemory) → Holds

-- What lines print from a number on: each its outcome, under its number, with the row that the lines before it leave standing.
pub data Prints : ℕ → Standing → List (List ℕ) → List ℕ → Type 0 where
  end : (n : ℕ) (before : Standing) → Prints n before [] []
  line : (n : ℕ) (before after : Standing) (bytes : List ℕ) (rest : List (List ℕ)) (outcome : Result Answer Refusal) (printed more : List ℕ)
      → Answers before bytes outcome after → Printed n outcome printed → Prints (n + 1) after rest more → Prints n before (bytes ∷ rest) (printed ++ more)

-- What a sheet prints: a refusal alone where it is too long or empty, and else its lines from number 1 on, before which no book stands.
pub record SheetPrints (input out : List ℕ) : Type 0 where
  pub long : 65536 < length input → Printed 0 (Err (NoRoom 65536)) out
  pub empty : length input ≡ 0 → Printed 0 (Err (Unreadable 1)) out
  pub lines : 1 ≤ length input → length input ≤ 65536 → Prints 1 None (lines_of input) out
