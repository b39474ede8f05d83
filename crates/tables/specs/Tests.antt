-- The rules of a table as tests, each a proposition, so that a type can carry them as its invariant.
use Rattle.std.specs.Prelude.{◌≡◌, ℕ, ◌+◌, ◌%◌, ◌<◌, Bool, true, false, List, ◌∷◌, length, is_some, Some, None, Option, nat_le, slice_index}
use Rattle.tables.specs.Steps.{step_at}

-- Each entry that is present leaves its remainder.
abbrev pub Leaves : ℕ → (ℕ → Option ℕ) → Type 0
Leaves m entry = (r e : ℕ) → entry r ≡ Some e → e % m ≡ r

-- Whether the second entry is present and at most the first and g, where the first is present.
abbrev pub at_most_sum : Option ℕ → Option ℕ → ℕ → Bool
at_most_sum None above g = true
at_most_sum (Some e) None g = false
at_most_sum (Some e) (Some least) g = nat_le least (e + g)

-- No other unit leads from a present entry to one that is absent or larger than the sum.
abbrev pub AllClosed : ℕ → List ℕ → (ℕ → Option ℕ) → Type 0
AllClosed m others entry =
    (r j : ℕ) → j < length others → at_most_sum (entry r) (entry ((r + slice_index others j) % m)) (slice_index others j) ≡ true

-- Each present entry but the one at 0 has a step.
abbrev pub AllStepped : ℕ → List ℕ → (ℕ → Option ℕ) → Type 0
AllStepped m others entry = (r : ℕ) → 0 < r → is_some (entry r) ≡ true → is_some (step_at (m ∷ others) entry r) ≡ true
