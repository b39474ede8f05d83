-- The least loads of a row in ascending order, and the entries that they fill.
use Rattle.std.specs.Prelude.{◌≡◌, ℕ, ◌%◌, ◌<◌, ◌≤◌, List, ◌∷◌, length, Some, Option, slice_index}
use Rattle.tables.specs.Rows.{Makes}
use Rattle.tables.specs.Tables.{entry_of}

-- The first n loads are the least of each remainder by the base m that the row of m and the sizes makes: each of them, once.
pub record Leasts (m : ℕ) (sizes order : List ℕ) (n : ℕ) : Type 0 where
  pub inside : n ≤ length order
  pub makes : (k : ℕ) → k < n → Makes (m ∷ sizes) (slice_index order k)
  pub least : (k : ℕ) → k < n → (load : ℕ) → Makes (m ∷ sizes) load → load % m ≡ slice_index order k % m → slice_index order k ≤ load
  pub all : (load : ℕ) → Makes (m ∷ sizes) load → (k : ℕ) × (k < n) × (slice_index order k % m ≡ load % m)
  pub rises : (j k : ℕ) → j ≤ k → k < n → slice_index order j ≤ slice_index order k
  pub apart : (j k : ℕ) → j < n → k < n → slice_index order j % m ≡ slice_index order k % m → j ≡ k

-- The first n loads stand each at its remainder, and no other entry is present.
pub record Entered (m : ℕ) (order : List ℕ) (n : ℕ) (entries : List (Option ℕ)) : Type 0 where
  pub there : (k : ℕ) → k < n → entry_of entries (slice_index order k % m) ≡ Some (slice_index order k)
  pub only : (r e : ℕ) → entry_of entries r ≡ Some e → (k : ℕ) × (k < n) × (slice_index order k ≡ e) × (e % m ≡ r)
