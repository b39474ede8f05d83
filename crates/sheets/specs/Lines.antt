-- What each line answers, told by the row of the book that stands before it, and what stands after it.
use Rattle.std.specs.Prelude.{◌≡◌, ℕ, ◌≤◌, List, [], ◌∷◌, Some, None, Ok, Err, vec_items, Option, Result, Vec, ◌≢◌}
use Rattle.std.specs.declared.alloc.Global.{Global}
use Rattle.tables.specs.Made.{Numbers, Refuses}
use Rattle.tables.specs.Missing.{GreatestMissing, MissingCount}
use Rattle.tables.specs.Rows.{Makes}
use Rattle.tables.specs.Unmade.{RowUnending}
use Rattle.tables.specs.declared.refusals.Refusal.{Refusal}
use Rattle.tables.specs.declared.refusals.Refusal.TheVariants.{NoBook, NoMemory}
use Rattle.books.specs.Calls.{admit_refusal, open_refusal, withdraw_refusal}
use Rattle.books.specs.Units.{row_with, row_without}
use Rattle.lines.specs.Lines.{Spells, Unread}
use Rattle.lines.specs.declared.line.Line.{Line}
use Rattle.lines.specs.declared.line.Line.TheVariants.{Open, Admit, Withdraw, Make, Largest, Gaps}
use Rattle.sheets.specs.declared.answers.Answer.{Answer}
use Rattle.sheets.specs.declared.answers.Answer.TheVariants.{Done, Number, Count, Made}

-- What stands between two lines: the row of the book that was opened last, or none where none was.
abbrev pub Standing : Type 0
Standing = Option (List ℕ)

-- An open that is refused keeps the book that stands; an accepted one puts a book of its base alone in its place.
abbrev pub OpensOr : Option Refusal → ℕ → Standing → Result Answer Refusal → Standing → Type 0
OpensOr (Some reason) base before outcome after = (outcome ≡ Err reason) × (after ≡ before)
OpensOr None base before outcome after = (outcome ≡ Ok Done) × (after ≡ Some (base ∷ []))

-- The answer is the greatest whole number that the row does not make; it is refused where the loads that it does not make never end.
abbrev pub AnswersLargest : List ℕ → Result Answer Refusal → Type 0
AnswersLargest row (Ok Done) = ⊥
AnswersLargest row (Ok (Number z)) = GreatestMissing (Makes row) z
AnswersLargest row (Ok (Count k)) = ⊥
AnswersLargest row (Ok (Made numbers)) = ⊥
AnswersLargest row (Err reason) = RowUnending row reason

-- The answer is how many loads the row does not make; it is refused where there is no end of them.
abbrev pub AnswersGaps : List ℕ → Result Answer Refusal → Type 0
AnswersGaps row (Ok Done) = ⊥
AnswersGaps row (Ok (Number z)) = ⊥
AnswersGaps row (Ok (Made numbers)) = ⊥
AnswersGaps row (Ok (Count k)) = MissingCount (Makes row) k
AnswersGaps row (Err reason) = RowUnending row reason

-- What making a load answers, with room for the sixteen numbers that a row can need: the numbers of units that make it, or why it is refused.
abbrev pub MakesLoad : List ℕ → ℕ → Result (Vec ℕ Global) Refusal → Type 0
MakesLoad row load (Ok numbers) = (load ≤ 1000000000) × Numbers row load (vec_items numbers)
MakesLoad row load (Err reason) = Refuses row load 16 reason

abbrev pub MakesOrMemory : List ℕ → ℕ → Result (Vec ℕ Global) Refusal → Type 0
MakesOrMemory row load r = (r ≢ Err NoMemory) → MakesLoad row load r

-- The answer is the numbers of units that make the load.
abbrev pub AnswersMake : ℕ → List ℕ → Result Answer Refusal → Type 0
AnswersMake load row (Ok Done) = ⊥
AnswersMake load row (Ok (Number z)) = ⊥
AnswersMake load row (Ok (Count k)) = ⊥
AnswersMake load row (Ok (Made numbers)) = MakesLoad row load (Ok numbers)
AnswersMake load row (Err reason) = MakesLoad row load (Err reason)

-- A question about the row that stands, which is refused where none does. It leaves what stands as it is.
abbrev pub Asks : (List ℕ → Result Answer Refusal → Type 0) → Standing → Result Answer Refusal → Standing → Type 0
Asks Answers None outcome after = (outcome ≡ Err NoBook) × (after ≡ None)
Asks Answers (Some row) outcome after = Answers row outcome × (after ≡ Some row)

-- A change of the row that stands, which is refused where none does: one that is refused for a reason keeps it.
abbrev pub TurnsRow : Option Refusal → List ℕ → List ℕ → Result Answer Refusal → Standing → Type 0
TurnsRow (Some reason) row next outcome after = (outcome ≡ Err reason) × (after ≡ Some row)
TurnsRow None row next outcome after = (outcome ≡ Ok Done) × (after ≡ Some next)

abbrev pub AdmitsSize : ℕ → Standing → Result Answer Refusal → Standing → Type 0
AdmitsSize size None outcome after = (outcome ≡ Err NoBook) × (after ≡ None)
AdmitsSize size (Some row) outcome after = TurnsRow (admit_refusal row size) row (row_with size row) outcome after

-- A withdrawal has a strip of 4,096 bytes, enough for every base.
abbrev pub WithdrawsSize : ℕ → Standing → Result Answer Refusal → Standing → Type 0
WithdrawsSize size None outcome after = (outcome ≡ Err NoBook) × (after ≡ None)
WithdrawsSize size (Some row) outcome after = TurnsRow (withdraw_refusal row size 4096) row (row_without size row) outcome after

-- What a readable line answers, and what stands after it.
abbrev pub Carries : Standing → Line → Result Answer Refusal → Standing → Type 0
Carries before (Open base) outcome after = OpensOr (open_refusal base) base before outcome after
Carries before (Admit size) outcome after = AdmitsSize size before outcome after
Carries before (Withdraw size) outcome after = WithdrawsSize size before outcome after
Carries before (Make load) outcome after = Asks (AnswersMake load) before outcome after
Carries before Largest outcome after = Asks AnswersLargest before outcome after
Carries before Gaps outcome after = Asks AnswersGaps before outcome after

-- What the bytes of a line answer: an unreadable line changes nothing and is refused with its column.
pub data Answers (before : Standing) (bytes : List ℕ) : Result Answer Refusal → Standing → Type 0 where
  unread : (reason : Refusal) → Unread bytes reason → Answers before bytes (Err reason) before
  carried : (line : Line) (outcome : Result Answer Refusal) (after : Standing) → Spells bytes line → Carries before line outcome after → Answers before bytes outcome after
