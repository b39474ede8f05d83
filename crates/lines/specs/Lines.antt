-- Lines: the text of each, and how bytes are read as one.
use Rattle.std.specs.Prelude.{◌≡◌, ℕ, ◌-◌, ◌≤◌, List, [], ◌∷◌, ◌++◌, Ok, Err, decimal, Result}
use Rattle.tables.specs.declared.refusals.Refusal.{Refusal}
use Rattle.tables.specs.declared.refusals.Refusal.TheVariants.{Unreadable}
use Rattle.lines.specs.declared.line.Line.{Line}
use Rattle.lines.specs.declared.line.Line.TheVariants.{Open, Admit, Withdraw, Make, Largest, Gaps}
use Rattle.lines.specs.Texts.{Stops}

-- The text of a line: its letter, each number as it is written, with one space before it and no leading 0, and byte 10.
abbrev pub text : Line → List ℕ
text (Open base) = 66 ∷ (32 ∷ (decimal base ++ (10 ∷ [])))
text (Admit size) = 65 ∷ (32 ∷ (decimal size ++ (10 ∷ [])))
text (Withdraw size) = 87 ∷ (32 ∷ (decimal size ++ (10 ∷ [])))
text (Make load) = 77 ∷ (32 ∷ (decimal load ++ (10 ∷ [])))
text Largest = 76 ∷ (10 ∷ [])
text Gaps = 71 ∷ (10 ∷ [])

-- The numbers of a line are in range.
abbrev pub Fits : Line → Type 0
Fits (Open base) = base ≤ 4294967295
Fits (Admit size) = size ≤ 4294967295
Fits (Withdraw size) = size ≤ 4294967295
Fits (Make load) = load ≤ 4294967295
Fits Largest = Unit {0}
Fits Gaps = Unit {0}

-- The bytes spell a line whose numbers are in range.
pub record Spells (bytes : List ℕ) (line : Line) : Type 0 where
  pub fits : Fits line
  pub is : text line ≡ bytes

-- The bytes are a readable line.
pub record Readable (bytes : List ℕ) : Type 0 where
  pub line : Line
  pub spells : Spells bytes line

-- The bytes are no readable line: the reason names the column, from 1, of the first byte at which no readable line goes on.
pub record Unread (bytes : List ℕ) (reason : Refusal) : Type 0 where
  pub column : ℕ
  pub named : reason ≡ Unreadable column
  pub from : 1 ≤ column
  pub stops : Stops Readable bytes (column - 1)

-- what reading bytes as a line answers
abbrev pub Reads : List ℕ → Result Line Refusal → Type 0
Reads bytes (Ok line) = Spells bytes line
Reads bytes (Err reason) = Unread bytes reason
