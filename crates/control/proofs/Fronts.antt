-- Memory that is written from its beginning on, part by part.
use Rattle.std.proofs.Common.{◌≡◌, ℕ, ◌+◌, ◌*◌, ◌<◌, ◌≤◌, List, ◌++◌, length, get_or, take, drop, sym, ap, ◌∙◌, arith}
use Rattle.std.specs.List.{flat_map}
use Rattle.files.proofs.Fronts.{part_more}

from_zero : (n : ℕ) → 0 + n ≡ n
from_zero n = omega arith

module _ (f : ℕ → List ℕ) (k : ℕ) (xs before now : List ℕ) (i : ℕ) where
  -- one more part
  pub front_more : (after : List ℕ) → ((x : ℕ) → length (f x) ≡ k) → i < length xs
      → now ≡ flat_map f (take i xs) ++ drop (k * i) before
      → after ≡ take (k * i) now ++ f (get_or xs i 0) ++ drop (k * i + k) now
      → after ≡ flat_map f (take (i + 1) xs) ++ drop (k * (i + 1)) before
  front_more after each low was is =
      let zero_low : 0 ≤ length before = omega arith in
      part_more f k each xs 0 before now after 0 i low zero_low
      (was ∙ ap (λ (n : ℕ). flat_map f (take i xs) ++ drop n before) (sym (from_zero (k * i))))
      (is ∙ ap (λ (n : ℕ). take n now ++ f (get_or xs i 0) ++ drop (n + k) now) (sym (from_zero (k * i))))
      ∙ ap (λ (n : ℕ). flat_map f (take (i + 1) xs) ++ drop n before) (from_zero (k * (i + 1)))
