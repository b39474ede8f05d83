-- The units after one more is put in among them: which they are.
use Rattle.std.proofs.Common.{◌≡◌, ℕ, ◌+◌, ◌-◌, ◌<◌, ◌≤◌, ◌⊎◌, List, length, get_or, sym, refl, ap, subst, inl, inr, ⊎_elim, arith}
use Rattle.std.specs.List.{insert}
use Rattle.std.proofs.lemmas.Bool.{cases_order, cases_lt}
use Rattle.books.specs.Units.{Rising}
use Rattle.std.proofs.lemmas.List.Edits.{length-insert, get_or-insert_below, get_or-insert_at, get_or-insert_above}

module _ (xs : List ℕ) (at g : ℕ) (le : at ≤ length xs) where
  -- what stands below, at and above the place of the new one
  pub in_below : (k : ℕ) → k < at → get_or (insert xs at g) k 0 ≡ get_or xs k 0
  in_below k h = get_or-insert_below xs at g 0 k h le

  pub in_at : (k : ℕ) → k ≡ at → get_or (insert xs at g) k 0 ≡ g
  in_at k e = subst (λ (q : ℕ). get_or (insert xs at g) q 0 ≡ g) (sym e) (get_or-insert_at xs at g 0 le)

  pub in_above : (k : ℕ) → at < k → get_or (insert xs at g) k 0 ≡ get_or xs (k - 1) 0
  in_above k h =
      let e : (k - 1) + 1 ≡ k = omega arith in
      subst (λ (q : ℕ). get_or (insert xs at g) q 0 ≡ get_or xs (k - 1) 0) e (get_or-insert_above xs at g 0 (k - 1) (omega arith) le)

  -- each is the new one or one of those before
  pub in_which : (j : ℕ) → j < length (insert xs at g) → (get_or (insert xs at g) j 0 ≡ g) ⊎ ((i : ℕ) × ((i < length xs) × (get_or (insert xs at g) j 0 ≡ get_or xs i 0)))
  in_which j h =
      let n = length-insert xs at g le in
      ⊎_elim
      (λ (q : j ≡ at). inl (in_at j q))
      (⊎_elim
      (λ (lt : j < at). inr (j, (omega arith, in_below j lt)))
      (λ (gt : at < j). inr (j - 1, (omega arith, in_above j gt))))
      (cases_order j at)

  -- the new one is there
  pub in_new : (j : ℕ) × ((j < length (insert xs at g)) × (get_or (insert xs at g) j 0 ≡ g))
  in_new = (at, (omega (arith, length-insert xs at g le), in_at at refl))

  -- and so is each of those before
  pub in_old : (i : ℕ) → i < length xs → (j : ℕ) × ((j < length (insert xs at g)) × (get_or (insert xs at g) j 0 ≡ get_or xs i 0))
  in_old i h =
      let n = length-insert xs at g le in
      ⊎_elim
      (λ (lt : i < at). (i, (omega arith, in_below i lt)))
      (λ (ge : at ≤ i). (i + 1, (omega arith, get_or-insert_above xs at g 0 i ge le)))
      (cases_lt i at)

  -- what holds of each element and of the new one holds of each after
  pub in_each : (P : ℕ → Type 0) → ((i : ℕ) → i < length xs → P (get_or xs i 0)) → P g → (i : ℕ) → i < length (insert xs at g) → P (get_or (insert xs at g) i 0)
  in_each P each new i h =
      let n = length-insert xs at g le in
      ⊎_elim
      (λ (q : i ≡ at). subst P (sym (in_at i q)) new)
      (⊎_elim
      (λ (lt : i < at). subst P (sym (in_below i lt)) (each i (omega arith)))
      (λ (gt : at < i). subst P (sym (in_above i gt)) (each (i - 1) (omega arith))))
      (cases_order i at)

  pub in_rising : Rising xs → ((i : ℕ) → i < at → get_or xs i 0 < g) → (at < length xs → g < get_or xs at 0) → Rising (insert xs at g)
  in_rising up below above i j ij jn =
      let n = length-insert xs at g le in
      ⊎_elim
      (λ (q : j ≡ at). omega (arith, in_at j q, in_below i (omega arith), below i (omega arith)))
      (⊎_elim
      (λ (lt : j < at). omega (arith, in_below j lt, in_below i (omega arith), up i j ij (omega arith)))
      (λ (gt : at < j).
      ⊎_elim
      (λ (q : i ≡ at). omega (arith, in_at i q, in_above j gt, far (j - 1) (omega arith) (omega arith)))
      (⊎_elim
      (λ (lt : i < at). omega (arith, in_below i lt, in_above j gt, below i lt, far (j - 1) (omega arith) (omega arith)))
      (λ (gi : at < i). omega (arith, in_above i gi, in_above j gt, up (i - 1) (j - 1) (omega arith) (omega arith))))
      (cases_order i at)))
      (cases_order j at)
    where
      far : (k : ℕ) → at ≤ k → k < length xs → g < get_or xs k 0
      far k h kn =
          ⊎_elim
          (λ (q : k ≡ at). omega (arith, above (omega arith), ap (λ (z : ℕ). get_or xs z 0) q))
          (⊎_elim (λ (lt : k < at). absurd (omega arith)) (λ (gt : at < k). omega (arith, above (omega arith), up at k gt kn)))
          (cases_order k at)
