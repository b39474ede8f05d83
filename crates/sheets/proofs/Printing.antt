-- What is written of an outcome is its printed line.
use Rattle.std.proofs.Common.{◌≡◌, ℕ, ◌+◌, ◌<◌, List, [], ◌∷◌, ◌++◌, length, get_or, take, Some, None, Err, codes, decimal, Option, Result, sym, refl, ap, ◌∙◌, append_assoc, append-nil, arith}
use Rattle.std.proofs.lemmas.List.{take_more}
use Rattle.tables.specs.Refusals.{number_of, place_of}
use Rattle.tables.specs.declared.refusals.Refusal.{Refusal}
use Rattle.tables.specs.declared.refusals.Refusal.TheVariants.{NoMemory}
use Rattle.sheets.specs.Answers.{AddsLine, Printed, numbers_text, outcome_text, refused_text}
use Rattle.sheets.specs.declared.answers.Answer.{Answer}

-- one number more
numbers_push : (xs : List ℕ) (n : ℕ) → numbers_text (xs ++ (n ∷ [])) ≡ numbers_text xs ++ (32 ∷ decimal n)
numbers_push [] n = ap (λ bs. 32 ∷ bs) (append-nil (decimal n))
numbers_push (x ∷ xs) n =
    ap (λ bs. 32 ∷ (decimal x ++ bs)) (numbers_push xs n) ∙ ap (λ bs. 32 ∷ bs) (sym (append_assoc (decimal x) (numbers_text xs) (32 ∷ decimal n)))

pub numbers_more : (xs : List ℕ) (i : ℕ) → i < length xs → numbers_text (take i xs) ++ (codes " " ++ decimal (get_or xs i 0)) ≡ numbers_text (take (i + 1) xs)
numbers_more xs i low = sym (ap numbers_text (take_more xs i 0 low) ∙ numbers_push (take i xs) (get_or xs i 0))

-- the number and the place of a refusal between the number of the line and the end of the line
pub adds_refused : (line : ℕ) (reason : Refusal) (number place : ℕ) (before after : List ℕ) → number_of reason ≡ Some number → place_of reason ≡ Some place
    → after ≡ before ++ (decimal line ++ (codes " no " ++ ((decimal number ++ (codes " " ++ decimal place)) ++ (10 ∷ [])))) → AddsLine line (Err reason) before after
adds_refused line reason number place before after numbered placed is = record {
  bytes = decimal line ++ (refused_text number place ++ (10 ∷ []));
  printed = record { text = refused_text number place; said = rw (numbered, placed) refl; spelled = refl };
  is = is;
}

-- want of memory is never printed
pub printed_kept : (line : ℕ) (outcome : Result Answer Refusal) (bytes : List ℕ) → Printed line outcome bytes → outcome ≡ Err NoMemory → ⊥
printed_kept line outcome bytes printed lost =
    let none : ◌≡◌ {A = Option (List ℕ)} None (Some printed.text) = sym (ap outcome_text lost) ∙ printed.said in
    let z : ◌≡◌ {A = ℕ} 0 1 = cc in
    omega arith
