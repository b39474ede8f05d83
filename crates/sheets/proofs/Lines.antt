-- A sheet line by line: what is printed so far, and what the lines to come will print behind it.
use Rattle.std.proofs.Common.{◌≡◌, ℕ, ◌+◌, ◌<◌, List, [], ◌∷◌, ◌++◌, length, get_or, drop, None, Result, sym, ap, ◌∙◌, subst, append_assoc, append-nil, arith}
use Rattle.std.specs.List.{enumerate_from}
use Rattle.std.proofs.lemmas.List.{drop_all, drop_more}
use Rattle.std.proofs.lemmas.List.FromFn.{length-enumerate_from, get_or-enumerate_from}
use Rattle.tables.specs.declared.refusals.Refusal.{Refusal}
use Rattle.sheets.specs.declared.answers.Answer.{Answer}
use Rattle.sheets.specs.Answers.{AddsLine, Printed}
use Rattle.sheets.specs.Lines.{Standing, Answers}
use Rattle.sheets.specs.Sheets.{Prints, end, line}

-- the line at a place, whose number counts from 0
pub record Stands (lines : List (List ℕ)) (place number : ℕ) (bytes : List ℕ) : Type 0 where
  pub low : place < length lines
  pub numbered : number ≡ place
  pub is : bytes ≡ get_or lines place bytes

pub stands : (lines : List (List ℕ)) (place number : ℕ) (bytes : List ℕ)
    → (place < length (enumerate_from 0 lines)) × (◌≡◌ {A = ℕ × List ℕ} (number, bytes) (get_or (enumerate_from 0 lines) place (number, bytes))) → Stands lines place number bytes
stands lines place number bytes taken =
    let low : place < length lines = omega (arith, taken.0, length-enumerate_from 0 lines) in
    let same : ◌≡◌ {A = ℕ × List ℕ} (number, bytes) (0 + place, get_or lines place bytes) = taken.1 ∙ get_or-enumerate_from 0 lines place (number, bytes) low in
    record { low = low; numbered = ap (λ (p : ℕ × List ℕ). p.0) same ∙ (omega arith); is = ap (λ (p : ℕ × List ℕ). p.1) same }

-- Before the line at a place: what is printed, and then what the lines to come print, is what all the lines print.
pub record Sofar (lines : List (List ℕ)) (count : ℕ) (now : Standing) (out : List ℕ) : Type 0 where
  pub onward : (more : List ℕ) → Prints (count + 1) now (drop count lines) more → Prints 1 None lines (out ++ more)

pub sofar_more : (lines : List (List ℕ)) (count number : ℕ) (bytes : List ℕ) (before after : Standing) (outcome : Result Answer Refusal) (was is : List ℕ)
    → Sofar lines count before was → Stands lines count number bytes → Answers before bytes outcome after → AddsLine (number + 1) outcome was is → Sofar lines (count + 1) after is
sofar_more lines count number bytes before after outcome was is sofar stands answers adds =
    record {
      onward = λ more rest.
          subst (Prints 1 None lines) (sym (append_assoc was adds.bytes more) ∙ ap (λ bs. bs ++ more) (sym adds.is))
          (sofar.onward (adds.bytes ++ more)
          (subst (λ ls. Prints (count + 1) before ls (adds.bytes ++ more)) (sym (drop_more lines count bytes stands.low ∙ ap (λ bs. bs ∷ drop (count + 1) lines) (sym stands.is)))
          (line (count + 1) before after bytes (drop (count + 1) lines) outcome adds.bytes more answers (subst (λ n. Printed (n + 1) outcome adds.bytes) stands.numbered adds.printed) rest)));
    }

pub sofar_all : (lines : List (List ℕ)) (count : ℕ) (now : Standing) (out : List ℕ) → Sofar lines count now out → count ≡ length (enumerate_from 0 lines) → Prints 1 None lines out
sofar_all lines count now out sofar past =
    subst (Prints 1 None lines) (append-nil out)
    (sofar.onward [] (subst (λ rest. Prints (count + 1) now rest []) (sym (drop_all count lines (omega (arith, past, length-enumerate_from 0 lines)))) (end (count + 1) now)))
