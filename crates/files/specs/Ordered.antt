-- The sentences of a row, each a proposition, so that a type can carry them as its invariant.
use Rattle.std.specs.Prelude.{ℕ, ◌<◌, ◌≤◌, List, length, ◌≢◌, slice_index}
use Rattle.tables.specs.Rows.{base_of}

-- Each unit has a size from 1 to 65,535.
abbrev pub Sized : List ℕ → Type 0
Sized row = (i : ℕ) → i < length row → (1 ≤ slice_index row i) × (slice_index row i ≤ 65535)

-- The units other than the base ascend.
abbrev pub Rises : List ℕ → Type 0
Rises row = (i j : ℕ) → (1 ≤ i) × (i < j) × (j < length row) → slice_index row i < slice_index row j

-- None of them has the base's size.
abbrev pub Apart : List ℕ → Type 0
Apart row = (i : ℕ) → 1 ≤ i → i < length row → slice_index row i ≢ base_of row
