-- Where a size stands among ascending sizes, from what a binary search says.
use Rattle.std.proofs.Common.{◌≡◌, ℕ, ◌<◌, ◌≤◌, List, length, get_or, Ok, Err, Result, inl, inr, arith}
use Rattle.std.proofs.lemmas.Bool.{cases_lt}
use Rattle.std.proofs.lemmas.List.Sorted.{searched}
use Rattle.std.specs.List.Sorted.{IsBinarySearchResult}
use Rattle.std.specs.Ordering.{nat_cmp}
use Rattle.std.specs.Result.{MatchResult}
use Rattle.books.specs.Units.{Located, Rising}

no_less : (sizes : List ℕ) → Rising sizes → (i j : ℕ) → i ≤ j → j < length sizes → get_or sizes i 0 ≤ get_or sizes j 0
no_less sizes rising i j h inside =
    elim (cases_lt i j) [
      | inl less ↦ omega (arith, rising i j less inside)
      | inr same ↦ (let e : i ≡ j = omega arith in rw e (omega arith))
    ]

pub located : (sizes : List ℕ) (size : ℕ) (r : Result ℕ ℕ) → Rising sizes → IsBinarySearchResult (λ y. nat_cmp y size) sizes r → Located sizes size r
located sizes size r rising found = from r (searched sizes size r found (no_less sizes rising))
  where
    from : (r : Result ℕ ℕ) → MatchResult r (λ i. (i < length sizes) × (get_or sizes i 0 ≡ size)) (λ i. (i ≤ length sizes) × ((k : ℕ) → k < i → get_or sizes k 0 < size) × ((k : ℕ) → i ≤ k → k < length sizes → size < get_or sizes k 0)) → Located sizes size r
    from (Ok at) f = (f.0, (λ i h. omega (arith, rising i at h f.0, f.1)), f.1)
    from (Err at) f = (f.0, f.1, λ h. f.2 at (omega arith) h)
