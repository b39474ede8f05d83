-- The numbers of units that make a load, and what a call that asks for them answers.
use Rattle.std.specs.Prelude.{◌≡◌, ℕ, ◌+◌, ◌-◌, ◌/◌, ◌%◌, ◌<◌, ◌≤◌, List, length, take, drop, replicate, Ok, Err, Result, slice_index, slice_set}
use Rattle.tables.specs.declared.refusals.Refusal.{Refusal}
use Rattle.tables.specs.declared.refusals.Refusal.TheVariants.{LoadTooLarge, NoRoom, Unmakeable}
use Rattle.tables.specs.Rows.{total, Makes, Least, base_of}
use Rattle.tables.specs.Steps.{Step}

-- one more of the unit at position i
abbrev pub one_more : List ℕ → ℕ → List ℕ
one_more counts i = slice_set counts i (slice_index counts i + 1)

-- How often each unit is the step on the way from remainder r down to 0: each step leads back to a remainder s.
pub data Followed (row : List ℕ) : ℕ → List ℕ → Type 0 where
  done : Followed row 0 (replicate (length row) 0)
  next : (r s i : ℕ) (counts : List ℕ) → Step row r i → s < base_of row → (s + slice_index row i) % base_of row ≡ r → Followed row s counts → Followed row r (one_more counts i)

-- The numbers of units that make a load: the steps make the least load of its remainder, and bases make the rest.
pub record Numbers (row : List ℕ) (load : ℕ) (numbers : List ℕ) : Type 0 where
  pub least : ℕ
  pub is_least : Least row (load % base_of row) least
  pub within : least ≤ load
  pub counts : List ℕ
  pub followed : Followed row (load % base_of row) counts
  pub are : numbers ≡ slice_set counts 0 ((load - least) / base_of row)

-- The load is made: its numbers, of which there are no others, stand in the first places and add up to the load, and the places past them are as before.
pub record Made (row : List ℕ) (load : ℕ) (before : List ℕ) (units : ℕ) (after : List ℕ) : Type 0 where
  pub small : load ≤ 1000000000
  pub room : length row ≤ length before
  pub all : units ≡ length row
  pub numbers : Numbers row load (take (length row) after)
  pub adds : total row (take (length row) after) ≡ load
  pub only : (other : List ℕ) → Numbers row load other → other ≡ take (length row) after
  pub rest : drop (length row) after ≡ drop (length row) before

-- Why a load is refused where there is this much room: each reason stands only where those before it do not.
pub data Refuses (row : List ℕ) (load room : ℕ) : Refusal → Type 0 where
  too_large : 1000000000 < load → Refuses row load room LoadTooLarge
  too_short : load ≤ 1000000000 → room < length row → Refuses row load room (NoRoom (length row))
  unmade : load ≤ 1000000000 → length row ≤ room → (Makes row load → ⊥) → Refuses row load room (Unmakeable (load % base_of row))

-- what make answers, and what the lent places hold before and after
abbrev pub Make : List ℕ → ℕ → List ℕ → Result ℕ Refusal → List ℕ → Type 0
Make row load before (Ok units) after = Made row load before units after
Make row load before (Err reason) after = Refuses row load (length before) reason × (after ≡ before)
