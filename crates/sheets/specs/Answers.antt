-- What is printed of a line's outcome.
use Rattle.std.specs.Prelude.{◌≡◌, ℕ, List, [], ◌∷◌, ◌++◌, Some, None, Ok, Err, vec_items, codes, decimal, Option, Result}
use Rattle.std.specs.Fmt.{signed_decimal}
use Rattle.tables.specs.Refusals.{number_of, place_of}
use Rattle.tables.specs.declared.refusals.Refusal.{Refusal}
use Rattle.tables.specs.declared.refusals.Refusal.TheVariants.{NoMemory}
use Rattle.sheets.specs.declared.answers.Answer.{Answer}
use Rattle.sheets.specs.declared.answers.Refused.{Refused}
use Rattle.sheets.specs.declared.answers.Answer.TheVariants.{Done, Number, Count, Made}

-- Numbers with one space before each.
abbrev pub numbers_text : List ℕ → List ℕ
numbers_text [] = []
numbers_text (n ∷ numbers) = 32 ∷ (decimal n ++ numbers_text numbers)

-- The text of an answer, with one space before each of its words; a negative number has a minus sign in front.
abbrev pub answer_text : Answer → List ℕ
answer_text Done = codes " ok"
answer_text (Number z) = 32 ∷ signed_decimal z
answer_text (Count k) = 32 ∷ decimal k
answer_text (Made numbers) = numbers_text (vec_items numbers)

-- The text of a number and a place.
abbrev pub refused_text : ℕ → ℕ → List ℕ
refused_text number place = codes " no " ++ (decimal number ++ (codes " " ++ decimal place))

-- The text of a refusal: its number and its place. Want of memory has no text.
abbrev pub refusal_text : Option ℕ → Option ℕ → Option (List ℕ)
refusal_text None place = None
refusal_text (Some number) None = None
refusal_text (Some number) (Some place) = Some (refused_text number place)

abbrev pub outcome_text : Result Answer Refusal → Option (List ℕ)
outcome_text (Ok answer) = Some (answer_text answer)
outcome_text (Err reason) = refusal_text (number_of reason) (place_of reason)

-- A refusal is taken as its number and its place. Only want of memory has none, and is given back.
abbrev pub TakesRefusal : Refusal → Result Refused Refusal → Type 0
TakesRefusal reason (Ok refused) = (number_of reason ≡ Some refused.number) × (place_of reason ≡ Some refused.place)
TakesRefusal reason (Err given) = (given ≡ reason) × (reason ≡ NoMemory)

-- The printed line of an outcome: the number of the line, the text of the outcome and byte 10.
pub record Printed (line : ℕ) (outcome : Result Answer Refusal) (bytes : List ℕ) : Type 0 where
  pub text : List ℕ
  pub said : outcome_text outcome ≡ Some text
  pub spelled : bytes ≡ decimal line ++ (text ++ (10 ∷ []))

-- the printed line stands behind what was printed before
pub record AddsLine (line : ℕ) (outcome : Result Answer Refusal) (before after : List ℕ) : Type 0 where
  pub bytes : List ℕ
  pub printed : Printed line outcome bytes
  pub is : after ≡ before ++ bytes

abbrev pub PrintsLine : ℕ → Result Answer Refusal → List ℕ → Result (Unit {0}) Refusal → List ℕ → Type 0
PrintsLine line outcome before (Ok done) after = AddsLine line outcome before after
PrintsLine line outcome before (Err reason) after = reason ≡ NoMemory
