-- The common divisors of a base and another unit.
use Rattle.std.specs.Prelude.{◌≡◌, ℕ, ◌*◌, ◌%◌, ◌≤◌}

-- d divides both units
pub record Common (base other d : ℕ) : Type 0 where
  pub of_base : base % d ≡ 0
  pub of_other : other % d ≡ 0

-- d is the greatest number that divides both units
pub record Greatest (base other d : ℕ) : Type 0 where
  pub common : Common base other d
  pub most : (e : ℕ) → Common base other e → e ≤ d

-- What Euclid's way finds: a common divisor d, and as many times the other unit as leave d by the base.
pub record Solved (base other d times : ℕ) : Type 0 where
  pub some : 1 ≤ d
  pub common : Common base other d
  pub within : d ≤ other
  pub low : 1 ≤ times
  pub high : times ≤ base
  pub leaves : (other * times) % base ≡ d % base
