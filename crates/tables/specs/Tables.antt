-- What a table source means, and the loads that it contains.
use Rattle.std.specs.Prelude.{◌≡◌, ℕ, ◌%◌, ◌≤◌, List, Some, None, Option, slice_index_or}

-- The entries of a list, from remainder 0 up: none past its end.
abbrev pub entry_of : List (Option ℕ) → ℕ → Option ℕ
entry_of entries r = slice_index_or entries r None

-- The sentences of a source, of its base m and its entry at each remainder.
pub record Lawful (m : ℕ) (entry : ℕ → Option ℕ) : Type 0 where
  pub low : 1 ≤ m
  pub high : m ≤ 4096
  pub zero : entry 0 ≡ Some 0
  pub past : (r : ℕ) → m ≤ r → entry r ≡ None
  pub leaves : (r e : ℕ) → entry r ≡ Some e → e % m ≡ r
  pub fits : (r e : ℕ) → entry r ≡ Some e → e ≤ 4294967294

-- The entry at r is present and at most the load.
pub record Within (entry : ℕ → Option ℕ) (r load : ℕ) : Type 0 where
  pub least : ℕ
  pub present : entry r ≡ Some least
  pub within : least ≤ load

-- A source contains a load where the entry at its remainder is present and at most the load.
abbrev pub Contains : ℕ → (ℕ → Option ℕ) → ℕ → Type 0
Contains m entry load = Within entry (load % m) load
