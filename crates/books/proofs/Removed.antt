-- The units after one of them is left out: which they are.
use Rattle.std.proofs.Common.{◌≡◌, ℕ, zero, suc, ◌+◌, ◌<◌, ◌≤◌, List, [], ◌∷◌, length, get_or, sym, refl, ap, subst, ⊎_elim, arith}
use Rattle.std.specs.List.{remove}
use Rattle.std.proofs.lemmas.Bool.{cases_lt, eq-eqb, ne_eqb}
use Rattle.std.proofs.lemmas.List.Edits.{length-remove, get_or-remove_below, get_or-remove_above}
use Rattle.books.specs.Units.{Rising, leave_out}

module _ (xs : List ℕ) (at : ℕ) (lt : at < length xs) where
  -- what holds of each element holds of each after
  pub out_each : (P : ℕ → Type 0) → ((i : ℕ) → i < length xs → P (get_or xs i 0)) → (i : ℕ) → i < length (remove xs at) → P (get_or (remove xs at) i 0)
  out_each P each i h =
      let n = length-remove xs at lt in
      ⊎_elim
      (λ (below : i < at). subst P (sym (get_or-remove_below xs at 0 i below lt)) (each i (omega arith)))
      (λ (above : at ≤ i). subst P (sym (get_or-remove_above xs at 0 i above lt)) (each (i + 1) (omega arith)))
      (cases_lt i at)

  pub out_rising : Rising xs → Rising (remove xs at)
  out_rising up i j ij jn =
      let n = length-remove xs at lt in
      ⊎_elim
      (λ (jb : j < at). omega (arith, get_or-remove_below xs at 0 i (omega arith) lt, get_or-remove_below xs at 0 j jb lt, up i j ij (omega arith)))
      (λ (ja : at ≤ j).
      ⊎_elim
      (λ (ib : i < at). omega (arith, get_or-remove_below xs at 0 i ib lt, get_or-remove_above xs at 0 j ja lt, up i (j + 1) (omega arith) (omega arith)))
      (λ (ia : at ≤ i). omega (arith, get_or-remove_above xs at 0 i ia lt, get_or-remove_above xs at 0 j ja lt, up (i + 1) (j + 1) (omega arith) (omega arith)))
      (cases_lt i at))
      (cases_lt j at)

-- nothing is left out where the size is not there
pub leave_none : (g : ℕ) (xs : List ℕ) → ((i : ℕ) → i < length xs → get_or xs i 0 ≡ g → ⊥) → leave_out g xs ≡ xs
leave_none g [] no' = refl
leave_none g (x ∷ xs) no' =
    let ne : x ≡ g → ⊥ = no' 0 (omega arith) in
    rw (ne_eqb x g ne) (ap (λ (l : List ℕ). x ∷ l) (leave_none g xs (λ i h e. no' (suc i) (omega arith) e)))

-- in ascending sizes the one at its place is the only one of that size
pub leave_out_is : (g : ℕ) (xs : List ℕ) (at : ℕ) → Rising xs → at < length xs → get_or xs at 0 ≡ g → remove xs at ≡ leave_out g xs
leave_out_is g [] at up lt e = absurd (omega arith)
leave_out_is g (x ∷ xs) zero up lt e =
    rw (eq-eqb x g e) (sym (leave_none g xs (λ i h q. omega (arith, up 0 (suc i) (omega arith) (omega arith)))))
leave_out_is g (x ∷ xs) (suc n) up lt e =
    let ne : x ≡ g → ⊥ = λ q. omega (arith, up 0 (suc n) (omega arith) lt) in
    rw (ne_eqb x g ne) (ap (λ (l : List ℕ). x ∷ l) (leave_out_is g xs n (λ i j h l. up (suc i) (suc j) (omega arith) (omega arith)) (omega arith) e))
