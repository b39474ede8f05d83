-- Steps: the unit by which the entry at a remainder is reached from another entry.
use Rattle.std.specs.Prelude.{◌≡◌, ℕ, ◌+◌, ◌-◌, ◌%◌, ◌<◌, ◌≤◌, Bool, false, List, length, drop, Some, None, Option, ◌==◌, slice_index}
use Rattle.std.specs.List.{position_from}
use Rattle.tables.specs.Rows.{Least, base_of}

-- (r − g) mod m: the remainder from which a unit of size g leads to r.
abbrev pub back : ℕ → ℕ → ℕ → ℕ
back m g r = (r + (m - g % m)) % m

-- Whether both entries are present, and the first is the second and g.
abbrev pub is_sum : Option ℕ → Option ℕ → ℕ → Bool
is_sum None below g = false
is_sum (Some e) None g = false
is_sum (Some e) (Some least) g = least + g == e

-- Whether the entry at r is the entry at (r − g) mod m and a unit of size g.
abbrev pub steps : ℕ → (ℕ → Option ℕ) → ℕ → ℕ → Bool
steps m entry r g = is_sum (entry r) (entry (back m g r)) g

-- The position of the first of the units that steps to r, where the first of them stands at this position.
abbrev pub first_step : ℕ → (ℕ → Option ℕ) → ℕ → ℕ → List ℕ → Option ℕ
first_step m entry r position units = position_from (steps m entry r) position units

-- The step at r: the position in the row of the smallest unit other than the base that steps to r. The others ascend, so it is the first.
-- There is none at 0 and where the entry is absent.
abbrev pub step_at : List ℕ → (ℕ → Option ℕ) → ℕ → Option ℕ
step_at row entry r = first_step (base_of row) entry r 1 (drop 1 row)

-- The unit at position i leads to remainder r from another one, whose load is less by just that unit. At says which load a remainder has.
pub record Leads (row : List ℕ) (At : ℕ → ℕ → Type 0) (r i : ℕ) : Type 0 where
  pub from : ℕ
  pub load : ℕ
  pub below : from < base_of row
  pub brings : (from + slice_index row i) % base_of row ≡ r
  pub before : At from load
  pub after : At r (load + slice_index row i)

-- At r, a remainder other than 0, the unit at position i is the first other than the base that leads there.
pub record FirstLeads (row : List ℕ) (At : ℕ → ℕ → Type 0) (r i : ℕ) : Type 0 where
  pub nonzero : r ≡ 0 → ⊥
  pub other : 1 ≤ i
  pub inside : i < length row
  pub leads : Leads row At r i
  pub first : (j : ℕ) → 1 ≤ j → j < i → Leads row At r j → ⊥

-- The step that a row alone decides: each remainder has the least load that the row makes of it.
abbrev pub Step : List ℕ → ℕ → ℕ → Type 0
Step row r i = FirstLeads row (Least row) r i
