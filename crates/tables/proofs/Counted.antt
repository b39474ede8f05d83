-- The loads that are not contained, listed in ascending order, are as many as the quotients of the entries by the base add up to.
use Rattle.std.proofs.Common.{◌≡◌, ℕ, zero, suc, ◌+◌, ◌*◌, ◌/◌, ◌%◌, ◌<◌, ◌≤◌, min, Bool, true, false, cond, ltb, List, [], ◌∷◌, ◌++◌, length, get_or, Some, None, Option, unwrap_or, sym, refl, ap, ◌∙◌, subst, inl, inr, mod-lt, mod-eq_of_lt, mul-le-mul_left, mul-suc, mul-add, arith}
use native.Mathlib.Nat.{div-add-mod, mul-add-mod_self_left}
use Rattle.std.proofs.lemmas.List.{length_push, get_or_push, get_or_append_left}
use Rattle.std.proofs.lemmas.Bool.{cases_lt, cases_Bool, lt-ltb, le-ltb, ltb-true, cond-true, cond-false, both_ways}
use Rattle.tables.specs.Missing.{MissingCount}
use Rattle.tables.specs.Tables.{Lawful, Within, Contains}
use Rattle.tables.proofs.Present.{base_apart}
use Rattle.tables.proofs.Sums.{sums, sums_same, sums_none, sums_plus, sums_split, sums_each}

-- the numbers below n that pass a test, in ascending order
abbrev pub passed : (ℕ → Bool) → ℕ → List ℕ
passed p zero = []
passed p (suc n) = cond (p n) (passed p n ++ n ∷ []) (passed p n)

-- 1 where the test passes
abbrev pub one_if : Bool → ℕ
one_if b = cond b 1 0

-- xs lists the numbers below n that pass
record Passed (p : ℕ → Bool) (n : ℕ) (xs : List ℕ) : Type 0 where
  count : length xs ≡ sums (λ k. one_if (p k)) n
  below : (i : ℕ) → i < length xs → get_or xs i 0 < n
  passes : (i : ℕ) → i < length xs → p (get_or xs i 0) ≡ true
  rises : (i j : ℕ) → i < j → j < length xs → get_or xs i 0 < get_or xs j 0
  whole : (k : ℕ) → k < n → p k ≡ true → (i : ℕ) × ((i < length xs) × (get_or xs i 0 ≡ k))

module _ (p : ℕ → Bool) (n : ℕ) (xs : List ℕ) (h : Passed p n xs) where
  skip : p n ≡ false → Passed p (suc n) xs
  skip fails =
      record {
        count = omega (arith, h.count, ap one_if fails);
        below = λ i l. omega (arith, h.below i l);
        passes = h.passes;
        rises = h.rises;
        whole = λ k l t. elim (cases_lt k n) [
          | inl before ↦ h.whole k before t
          | inr here ↦ absurd (both_ways (p n) fails (let e : n ≡ k = omega arith in ap p e ∙ t))
        ];
      }

  front : (i : ℕ) → i < length xs → get_or (xs ++ n ∷ []) i 0 ≡ get_or xs i 0
  front i l = get_or_append_left xs (n ∷ []) 0 i l

  last : (i : ℕ) → length xs ≡ i → get_or (xs ++ n ∷ []) i 0 ≡ n
  last i e = get_or_push xs n 0 i e

  push : p n ≡ true → Passed p (suc n) (xs ++ n ∷ [])
  push holds =
      let long : length (xs ++ n ∷ []) ≡ length xs + 1 = length_push xs n in
      record {
        count = omega (arith, h.count, ap one_if holds);
        below = λ i l. elim (cases_lt i (length xs)) [
          | inl before ↦ omega (arith, front i before, h.below i before)
          | inr here ↦ omega (arith, last i (omega arith))
        ];
        passes = λ i l. elim (cases_lt i (length xs)) [
          | inl before ↦ ap p (front i before) ∙ h.passes i before
          | inr here ↦ ap p (last i (omega arith)) ∙ holds
        ];
        rises = λ i j less l. elim (cases_lt j (length xs)) [
          | inl before ↦ omega (arith, front i (omega arith), front j before, h.rises i j less before)
          | inr here ↦ omega (arith, front i (omega arith), last j (omega arith), h.below i (omega arith))
        ];
        whole = λ k l t. elim (cases_lt k n) [
          | inl before ↦ (let w : (i : ℕ) × ((i < length xs) × (get_or xs i 0 ≡ k)) = h.whole k before t in
              (w.0, (omega (arith, w.1.0), front w.0 w.1.0 ∙ w.1.1)))
          | inr here ↦ (length xs, (omega arith, last (length xs) refl ∙ (let e : n ≡ k = omega arith in e)))
        ];
      }

passed_all : (p : ℕ → Bool) (n : ℕ) → Passed p n (passed p n)
passed_all p zero =
    record {
      count = refl;
      below = λ i l. absurd (omega arith);
      passes = λ i l. absurd (omega arith);
      rises = λ i j less l. absurd (omega arith);
      whole = λ k l t. absurd (omega arith);
    }
passed_all p (suc n) =
    elim (cases_Bool (p n)) [
      | inl holds ↦ subst (Passed p (suc n)) (sym (cond-true (p n) (passed p n ++ n ∷ []) (passed p n) holds)) (push p n (passed p n) (passed_all p n) holds)
      | inr fails ↦ subst (Passed p (suc n)) (sym (cond-false (p n) (passed p n ++ n ∷ []) (passed p n) fails)) (skip p n (passed p n) (passed_all p n) fails)
    ]

-- whether a load of a remainder with this entry is not contained
abbrev pub lacked : Option ℕ → ℕ → Bool
lacked None n = true
lacked (Some e) n = ltb n e

abbrev pub lacks : ℕ → (ℕ → Option ℕ) → ℕ → Bool
lacks m entry n = lacked (entry (n % m)) n

-- how many loads of remainder r are not contained, where its entry is present
abbrev pub quotient : ℕ → (ℕ → Option ℕ) → ℕ → ℕ
quotient m entry r = unwrap_or (entry r) 0 / m

module _ (m : ℕ) (entry : ℕ → Option ℕ) (lawful : Lawful m entry) (top : ℕ) (all : (k : ℕ) → k < m → Within entry k top) where
  -- an entry is its quotient of bases above its remainder
  entry_parts : (r : ℕ) → r < m → entry r ≡ Some (m * quotient m entry r + r)
  entry_parts r low =
      let w : Within entry r top = all r low in
      let e : w.least ≡ m * (w.least / m) + r = sym (div-add-mod w.least m) ∙ ap (λ k. m * (w.least / m) + k) (lawful.leaves r w.least w.present) in
      let v : w.least / m ≡ quotient m entry r = ap (λ o. unwrap_or o 0 / m) (sym w.present) in
      w.present ∙ ap Some (e ∙ ap (λ k. m * k + r) v)

  -- in each round of m loads, those of the remainders with a larger quotient are not contained
  in_round : (round r : ℕ) → r < m → one_if (lacks m entry (m * round + r)) ≡ one_if (ltb round (quotient m entry r))
  in_round round r low =
      let leaves : (m * round + r) % m ≡ r = mul-add-mod_self_left m round r ∙ mod-eq_of_lt low in
      let e : lacks m entry (m * round + r) ≡ ltb (m * round + r) (m * quotient m entry r + r) = ap (λ o. lacked o (m * round + r)) (ap entry leaves ∙ entry_parts r low) in
      ap one_if (e ∙ elim (cases_lt round (quotient m entry r)) [
        | inl less ↦ (let k : m * (round + 1) ≤ m * quotient m entry r = mul-le-mul_left m (omega arith) in
            lt-ltb (m * round + r) (m * quotient m entry r + r) (omega (arith, mul-add m round 1, lawful.low)) ∙ sym (lt-ltb round (quotient m entry r) less))
        | inr more ↦ (let k : m * quotient m entry r ≤ m * round = mul-le-mul_left m more in
            le-ltb (m * round + r) (m * quotient m entry r + r) (omega arith) ∙ sym (le-ltb round (quotient m entry r) more))
      ])

  min_more : (a k : ℕ) → min a (suc k) ≡ min a k + one_if (ltb k a)
  min_more a k =
      elim (cases_lt k a) [
        | inl less ↦ omega (arith, ap one_if (lt-ltb k a less))
        | inr more ↦ omega (arith, ap one_if (le-ltb k a more))
      ]

  -- after some rounds each remainder counts up to its quotient
  rounds : (k : ℕ) → sums (λ n. one_if (lacks m entry n)) (m * k) ≡ sums (λ r. min (quotient m entry r) k) m
  rounds zero =
      let z : m * 0 ≡ 0 = omega arith in
      ap (sums (λ n. one_if (lacks m entry n))) z
      ∙ sym (sums_same (λ r. min (quotient m entry r) 0) (λ r. 0) m (λ r h. omega arith) ∙ sums_none m)
  rounds (suc k) =
      ap (sums (λ n. one_if (lacks m entry n))) (mul-suc m k)
      ∙ sums_split (λ n. one_if (lacks m entry n)) (m * k) m
      ∙ (let a : sums (λ n. one_if (lacks m entry n)) (m * k) ≡ sums (λ r. min (quotient m entry r) k) m = rounds k in
      let b : sums (λ r. one_if (lacks m entry (m * k + r))) m ≡ sums (λ r. one_if (ltb k (quotient m entry r))) m =
      sums_same (λ r. one_if (lacks m entry (m * k + r))) (λ r. one_if (ltb k (quotient m entry r))) m (in_round k) in
      let c : sums (λ r. min (quotient m entry r) (suc k)) m ≡ sums (λ r. min (quotient m entry r) k) m + sums (λ r. one_if (ltb k (quotient m entry r))) m =
      sums_same (λ r. min (quotient m entry r) (suc k)) (λ r. min (quotient m entry r) k + one_if (ltb k (quotient m entry r))) m (λ r h. min_more (quotient m entry r) k)
      ∙ sums_plus (λ r. min (quotient m entry r) k) (λ r. one_if (ltb k (quotient m entry r))) m in
      omega (arith, a, b, c))

  -- As many rounds as the quotients add up to are enough: past them all loads are contained.
  bound : ℕ
  bound = m * sums (quotient m entry) m

  bound_count : sums (λ n. one_if (lacks m entry n)) bound ≡ sums (quotient m entry) m
  unfolding bound
  bound_count =
      rounds (sums (quotient m entry) m)
      ∙ sums_same (λ r. min (quotient m entry r) (sums (quotient m entry) m)) (quotient m entry) m (λ r h. omega (arith, sums_each (quotient m entry) m r h))

  past_bound : (n : ℕ) → bound ≤ n → Contains m entry n
  unfolding bound
  past_bound n past =
      let low : n % m < m = mod-lt n lawful.low in
      let k : m * quotient m entry (n % m) ≤ m * sums (quotient m entry) m = mul-le-mul_left m (sums_each (quotient m entry) m (n % m) low) in
      record {
        least = m * quotient m entry (n % m) + n % m;
        present = entry_parts (n % m) low;
        within = elim (cases_lt n (m * quotient m entry (n % m) + n % m)) [
          | inl less ↦ absurd (omega (arith, base_apart m n (m * quotient m entry (n % m) + n % m) (sym (lawful.leaves (n % m) (m * quotient m entry (n % m) + n % m) (entry_parts (n % m) low))) less))
          | inr more ↦ more
        ];
      }

  lacks_missing : (n : ℕ) → lacks m entry n ≡ true → Contains m entry n → ⊥
  lacks_missing n t c = omega (arith, ltb-true n c.least (ap (λ o. lacked o n) (sym c.present) ∙ t), c.within)

  missing_lacks : (n : ℕ) → (Contains m entry n → ⊥) → lacks m entry n ≡ true
  missing_lacks n missing =
      let low : n % m < m = mod-lt n lawful.low in
      let w : Within entry (n % m) top = all (n % m) low in
      ap (λ o. lacked o n) w.present
      ∙ elim (cases_lt n w.least) [
        | inl less ↦ lt-ltb n w.least less
        | inr more ↦ absurd (missing (record { least = w.least; present = w.present; within = more }))
      ]

  pub missing_count : (count : ℕ) → count ≡ sums (quotient m entry) m → MissingCount (Contains m entry) count
  missing_count count is =
      let h : Passed (lacks m entry) bound (passed (lacks m entry) bound) = passed_all (lacks m entry) bound in
      record {
        missing = passed (lacks m entry) bound;
        lists = record {
          rises = h.rises;
          sound = λ i l. lacks_missing (get_or (passed (lacks m entry) bound) i 0) (h.passes i l);
          whole = λ n missing. h.whole n (elim (cases_lt n bound) [ inl before ↦ before | inr past ↦ absurd (missing (past_bound n past)) ]) (missing_lacks n missing);
        };
        count = h.count ∙ bound_count ∙ sym is;
      }

-- the quotients of the first entries, all present, add up to the total
pub record Counting (m : ℕ) (entry : ℕ → Option ℕ) (remainder total : ℕ) : Type 0 where
  pub within : (k : ℕ) → k < remainder → Within entry k 4294967294
  pub adds : total ≡ sums (quotient m entry) remainder
  pub small : total ≤ remainder * 4294967294
