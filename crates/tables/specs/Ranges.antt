-- The range of a size.
use Rattle.std.specs.Prelude.{ℕ, ◌≤◌}

-- n is 1 or more, up to a limit.
abbrev pub InRange : ℕ → ℕ → Type 0
InRange limit n = (1 ≤ n) × (n ≤ limit)
