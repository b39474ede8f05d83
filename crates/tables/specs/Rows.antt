-- Rows of units, the loads that they make, and the table of a row.
use Rattle.std.specs.Prelude.{◌≡◌, ℕ, ◌+◌, ◌*◌, ◌%◌, ◌<◌, ◌≤◌, List, [], ◌∷◌, length, Some, None, Option, ◌≢◌, slice_index}

-- What counts of the units of a row add up to.
abbrev pub total : List ℕ → List ℕ → ℕ
total [] counts = 0
total (size ∷ row) [] = 0
total (size ∷ row) (count ∷ counts) = count * size + total row counts

-- A load is makeable from a row where some counts, one for each unit, add up to it.
pub record Makes (row : List ℕ) (load : ℕ) : Type 0 where
  pub counts : List ℕ
  pub each : length counts ≡ length row
  pub adds : total row counts ≡ load

-- The base of a row is its first unit.
abbrev pub base_of : List ℕ → ℕ
base_of row = slice_index row 0

-- A row of units: the base, and then at most fifteen others in ascending order, none of them of the base's size.
pub record Row (row : List ℕ) : Type 0 where
  pub some : 1 ≤ length row
  pub few : length row ≤ 16
  pub base : base_of row ≤ 4096
  pub sizes : (i : ℕ) → i < length row → (1 ≤ slice_index row i) × (slice_index row i ≤ 65535)
  pub rises : (i j : ℕ) → 1 ≤ i → i < j → j < length row → slice_index row i < slice_index row j
  pub apart : (i : ℕ) → 1 ≤ i → i < length row → slice_index row i ≢ base_of row

-- e is the least load of remainder r by the base that the row makes.
pub record Least (row : List ℕ) (r e : ℕ) : Type 0 where
  pub makes : Makes row e
  pub leaves : e % base_of row ≡ r
  pub least : (n : ℕ) → Makes row n → n % base_of row ≡ r → e ≤ n

-- The table of a row: at each remainder the least load that the row makes, absent where it makes none.
pub record Table (row : List ℕ) (entry : ℕ → Option ℕ) : Type 0 where
  pub present : (r e : ℕ) → entry r ≡ Some e → Least row r e
  pub absent : (r n : ℕ) → r < base_of row → entry r ≡ None → Makes row n → n % base_of row ≢ r
