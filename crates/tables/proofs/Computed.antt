-- Rows and tables that are written out: a test that computes shows that a row is in order, and that a table is its true one.
use Rattle.std.proofs.Common.{◌≡◌, ℕ, zero, suc, ◌+◌, ◌%◌, ◌<◌, ◌≤◌, Bool, true, cond, not, ◌&&◌, eqb, ltb, leb, List, [], ◌∷◌, length, get_or, is_some, Option, sym, ap, ◌∙◌, inl, inr, arith}
use Rattle.std.proofs.lemmas.Bool.{and_parts, cases_lt, leb-true, ltb-true, eq-eqb, cond-true, false≢true}
use Rattle.tables.specs.Rows.{Row, Table}
use Rattle.tables.specs.Steps.{step_at}
use Rattle.tables.specs.Tables.{Lawful, entry_of}
use Rattle.tables.specs.Tests.{AllClosed, AllStepped, at_most_sum}
use Rattle.tables.specs.Written.{tabular, written_lawful}
use Rattle.tables.proofs.Tested.{table_from}

-- whether each number below n passes
abbrev pub all_below : ℕ → (ℕ → Bool) → Bool
all_below zero p = true
all_below (suc n) p = p n && all_below n p

all_below_is : (n : ℕ) (p : ℕ → Bool) → all_below n p ≡ true → (k : ℕ) → k < n → p k ≡ true
all_below_is zero p t k h = absurd (omega arith)
all_below_is (suc n) p t k h =
    elim (cases_lt k n) [
      | inl low ↦ all_below_is n p (and_parts (p n) (all_below n p) t).1 k low
      | inr here ↦ ap p (let e : k ≡ n = omega arith in e) ∙ (and_parts (p n) (all_below n p) t).0
    ]

-- whether each number of a list passes
abbrev pub all_of : (ℕ → Bool) → List ℕ → Bool
all_of p [] = true
all_of p (x ∷ xs) = p x && all_of p xs

all_of_is : (p : ℕ → Bool) (xs : List ℕ) → all_of p xs ≡ true → (i : ℕ) → i < length xs → p (get_or xs i 0) ≡ true
all_of_is p [] t i h = absurd (omega arith)
all_of_is p (x ∷ xs) t zero h = (and_parts (p x) (all_of p xs) t).0
all_of_is p (x ∷ xs) t (suc i) h = all_of_is p xs (and_parts (p x) (all_of p xs) t).1 i (omega arith)

-- whether the sizes ascend, each of them above a bound
abbrev pub ascends_from : ℕ → List ℕ → Bool
ascends_from bound [] = true
ascends_from bound (x ∷ xs) = ltb bound x && ascends_from x xs

above_bound : (bound : ℕ) (xs : List ℕ) → ascends_from bound xs ≡ true → (i : ℕ) → i < length xs → bound < get_or xs i 0
above_bound bound [] t i h = absurd (omega arith)
above_bound bound (x ∷ xs) t zero h = ltb-true bound x (and_parts (ltb bound x) (ascends_from x xs) t).0
above_bound bound (x ∷ xs) t (suc i) h =
    let p = and_parts (ltb bound x) (ascends_from x xs) t in
    omega (arith, ltb-true bound x p.0, above_bound x xs p.1 i (omega arith))

ascends_is : (bound : ℕ) (xs : List ℕ) → ascends_from bound xs ≡ true → (i j : ℕ) → i < j → j < length xs → get_or xs i 0 < get_or xs j 0
ascends_is bound [] t i j less h = absurd (omega arith)
ascends_is bound (x ∷ xs) t i zero less h = absurd (omega arith)
ascends_is bound (x ∷ xs) t zero (suc j) less h = above_bound x xs (and_parts (ltb bound x) (ascends_from x xs) t).1 j (omega arith)
ascends_is bound (x ∷ xs) t (suc i) (suc j) less h = ascends_is x xs (and_parts (ltb bound x) (ascends_from x xs) t).1 i j (omega arith) (omega arith)

-- whether other units can stand beside a base: they are small enough, none is the base, and they ascend
abbrev pub may_stand : ℕ → ℕ → Bool
may_stand base x = leb x 65535 && not (eqb x base)

module _ (base : ℕ) (others : List ℕ) (low : 1 ≤ base) (high : base ≤ 4096) (few : length others ≤ 15) (stand : all_of (may_stand base) others ≡ true) (ascend : ascends_from 0 others ≡ true) where
  each : (i : ℕ) → i < length others → (get_or others i 0 ≤ 65535) × (get_or others i 0 ≡ base → ⊥)
  each i h =
      let p = and_parts (leb (get_or others i 0) 65535) (not (eqb (get_or others i 0) base)) (all_of_is (may_stand base) others stand i h) in
      (leb-true (get_or others i 0) 65535 p.0, λ e. false≢true (ap not (sym (eq-eqb (get_or others i 0) base e)) ∙ p.1))

  sizes : (i : ℕ) → i < length (base ∷ others) → (1 ≤ get_or (base ∷ others) i 0) × (get_or (base ∷ others) i 0 ≤ 65535)
  sizes zero h = (low, omega arith)
  sizes (suc i) h = (omega (arith, above_bound 0 others ascend i (omega arith)), (each i (omega arith)).0)

  rises : (i j : ℕ) → 1 ≤ i → i < j → j < length (base ∷ others) → get_or (base ∷ others) i 0 < get_or (base ∷ others) j 0
  rises zero j one less h = absurd (omega arith)
  rises (suc i) zero one less h = absurd (omega arith)
  rises (suc i) (suc j) one less h = ascends_is 0 others ascend i j (omega arith) (omega arith)

  apart : (i : ℕ) → 1 ≤ i → i < length (base ∷ others) → get_or (base ∷ others) i 0 ≡ base → ⊥
  apart zero one h e = absurd (omega arith)
  apart (suc i) one h e = (each i (omega arith)).1 e

  pub computed_row : Row (base ∷ others)
  computed_row = record { some = omega arith; few = omega arith; base = high; sizes = sizes; rises = rises; apart = apart }

-- whether each other unit leads from the entry at r to one that is present and at most the sum
abbrev pub closed_at : ℕ → List ℕ → (ℕ → Option ℕ) → ℕ → Bool
closed_at m others entry r = all_of (λ g. at_most_sum (entry r) (entry ((r + g) % m)) g) others

-- whether the entry at r has a step where it is present
abbrev pub stepped_at : ℕ → List ℕ → (ℕ → Option ℕ) → ℕ → Bool
stepped_at m others entry zero = true
stepped_at m others entry (suc r) = cond (is_some (entry (suc r))) (is_some (step_at (m ∷ others) entry (suc r))) true

module _ (others : List ℕ) (entries : List (Option ℕ)) (table : tabular entries ≡ true) (sized : (j : ℕ) → j < length others → 1 ≤ get_or others j 0)
    (closed : all_below (length entries) (closed_at (length entries) others (entry_of entries)) ≡ true)
    (stepped : all_below (length entries) (stepped_at (length entries) others (entry_of entries)) ≡ true) where
  lawful : Lawful (length entries) (entry_of entries)
  lawful = written_lawful entries table

  all_closed : AllClosed (length entries) others (entry_of entries)
  all_closed r j h =
      elim (cases_lt r (length entries)) [
        | inl low ↦ all_of_is (λ g. at_most_sum (entry_of entries r) (entry_of entries ((r + g) % length entries)) g) others (all_below_is (length entries) (closed_at (length entries) others (entry_of entries)) closed r low) j h
        | inr past ↦ ap (λ o. at_most_sum o (entry_of entries ((r + get_or others j 0) % length entries)) (get_or others j 0)) (lawful.past r past)
      ]

  all_stepped : AllStepped (length entries) others (entry_of entries)
  all_stepped zero above t = absurd (omega arith)
  all_stepped (suc r) above t =
      elim (cases_lt (suc r) (length entries)) [
        | inl low ↦ (let p : stepped_at (length entries) others (entry_of entries) (suc r) ≡ true = all_below_is (length entries) (stepped_at (length entries) others (entry_of entries)) stepped (suc r) low in
            sym (cond-true (is_some (entry_of entries (suc r))) (is_some (step_at (length entries ∷ others) (entry_of entries) (suc r))) true t) ∙ p)
        | inr past ↦ absurd (false≢true (ap is_some (sym (lawful.past (suc r) past)) ∙ t))
      ]

  pub computed_table : Table (length entries ∷ others) (entry_of entries)
  computed_table = table_from (length entries) others (entry_of entries) lawful.low lawful.zero lawful.leaves all_closed all_stepped sized lawful.past
