-- Pairs in numbers: the entries that a base, another unit and its inverse give.
use Rattle.std.specs.Prelude.{◌≡◌, ℕ, ◌*◌, ◌%◌, ◌≤◌, cond, Some, None, Option, nat_lt}

-- So many of the other unit leave 1 by the base.
abbrev pub Inverts : ℕ → ℕ → ℕ → Type 0
Inverts base other inverse = (other * inverse) % base ≡ 1 % base

-- The entry at r: as many of the other unit as leave r by the base, and absent from the base on.
abbrev pub paired : ℕ → ℕ → ℕ → ℕ → Option ℕ
paired base other inverse r = cond (nat_lt r base) (Some ((r * inverse) % base * other)) None

-- e is the first of 0, other, 2 other, .. that leaves r by the base.
pub record First (base other r e : ℕ) : Type 0 where
  pub turns : ℕ
  pub is : e ≡ turns * other
  pub leaves : e % base ≡ r
  pub first : (j : ℕ) → (j * other) % base ≡ r → turns ≤ j
