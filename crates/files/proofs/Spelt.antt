-- The entries below the base as a list.
use Rattle.std.proofs.Common.{◌≡◌, ℕ, zero, suc, ◌+◌, ◌<◌, length, get_or, None, Option, refl, ap, ◌∙◌, arith}
use Rattle.files.specs.Written.{entries_from}

module _ (entry : ℕ → Option ℕ) where
  pub entries_length : (r n : ℕ) → length (entries_from entry r n) ≡ n
  entries_length r zero = refl
  entries_length r (suc n) = ap suc (entries_length (suc r) n)

  entries_on : (r n i : ℕ) → i < n → get_or (entries_from entry r n) i None ≡ entry (r + i)
  entries_on r zero i h = absurd (omega arith)
  entries_on r (suc n) zero h = let same : r ≡ r + 0 = omega arith in ap entry same
  entries_on r (suc n) (suc i) h = let same : suc r + i ≡ r + suc i = omega arith in entries_on (suc r) n i (omega arith) ∙ ap entry same

  pub entries_at : (n i : ℕ) → i < n → get_or (entries_from entry 0 n) i None ≡ entry i
  entries_at n i h = let same : 0 + i ≡ i = omega arith in entries_on 0 n i h ∙ ap entry same
