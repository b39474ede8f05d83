-- What a survey answers of a book, for whatever past the book has, and of any other source.
use Rattle.std.specs.Prelude.{◌≡◌, ℕ, true, List, ℤ, is_ok, Option, Result, MatchResult}
use Rattle.files.specs.Judged.{TrueFile}
use Rattle.tables.specs.Made.{Make}
use Rattle.tables.specs.Missing.{GreatestMissing, MissingCount, Unending}
use Rattle.tables.specs.Rows.{Makes}
use Rattle.tables.specs.Tables.{Contains}
use Rattle.tables.specs.Unmade.{RowUnending}
use Rattle.tables.specs.declared.refusals.Refusal.{Refusal}

-- What is answered for a row: make refuses a load of up to 1,000,000,000 for which there is memory exactly when no numbers of the units add
-- up to it, and else writes the numbers that the steps give, which add up to it; the largest is the greatest whole number that the units do
-- not make, and the gaps count the loads that they do not make; both are refused exactly where those never end.
pub record RowAnswers (row : List ℕ) (load : ℕ) (before : List ℕ) (made : Result ℕ Refusal) (after : List ℕ) (largest : Result ℤ Refusal) (gaps : Result ℕ Refusal) : Type 0 where
  pub make_answers : Make row load before made after
  pub largest_answers : MatchResult largest (GreatestMissing (Makes row)) (RowUnending row)
  pub gaps_answers : MatchResult gaps (MissingCount (Makes row)) (RowUnending row)

-- What is answered for a table source: the same of the loads that it contains.
pub record SourceAnswers (m : ℕ) (entry : ℕ → Option ℕ) (largest : Result ℤ Refusal) (gaps : Result ℕ Refusal) : Type 0 where
  pub largest_answers : MatchResult largest (GreatestMissing (Contains m entry)) (Unending m entry)
  pub gaps_answers : MatchResult gaps (MissingCount (Contains m entry)) (Unending m entry)

-- A file is accepted exactly where it is well-formed and each entry is the least load of its remainder that the file's own units make,
-- absent where there is none.
pub record AcceptsExactly (bytes : List ℕ) (r : Result (Unit {0}) Refusal) : Type 0 where
  pub only : is_ok r ≡ true → TrueFile bytes
  pub each : TrueFile bytes → is_ok r ≡ true
