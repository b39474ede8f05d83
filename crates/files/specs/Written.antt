-- The bytes of a table file, and what saving one leaves in the memory that is lent for it.
use Rattle.std.specs.Prelude.{◌≡◌, ℕ, zero, suc, ◌+◌, ◌-◌, ◌*◌, ◌<◌, ◌≤◌, List, [], ◌∷◌, ◌++◌, length, drop, Ok, Err, Option, Result, unwrap_or}
use Rattle.std.specs.List.{flat_map}
use Rattle.tables.specs.Rows.{base_of}
use Rattle.tables.specs.declared.refusals.Refusal.{Refusal}
use Rattle.tables.specs.declared.refusals.Refusal.TheVariants.{NoRoom}
use Rattle.files.specs.Fields.{be16, be32}
use Rattle.files.specs.Layout.{letters}

-- The number that stands for an entry.
abbrev pub entry_number : Option ℕ → ℕ
entry_number o = unwrap_or o 4294967295

-- The four bytes of an entry.
abbrev pub entry_bytes : Option ℕ → List ℕ
entry_bytes o = be32 (entry_number o)

-- The entries at n remainders from r up.
abbrev pub entries_from : (ℕ → Option ℕ) → ℕ → ℕ → List (Option ℕ)
entries_from entry r zero = []
entries_from entry r (suc n) = entry r ∷ entries_from entry (suc r) n

-- The entries at the remainders below the base.
abbrev pub entries_of : List ℕ → (ℕ → Option ℕ) → List (Option ℕ)
entries_of row entry = entries_from entry 0 (base_of row)

-- The letters, version 1, the number of units and the base.
abbrev pub head_bytes : List ℕ → List ℕ
head_bytes row = letters ++ (be16 1 ++ (length row ∷ be16 (base_of row)))

-- The file of a row and its entries: the head, the sizes other than the base, and the entry at each remainder.
abbrev pub written : List ℕ → (ℕ → Option ℕ) → List ℕ
written row entry = head_bytes row ++ flat_map be16 (drop 1 row) ++ flat_map entry_bytes (entries_of row entry)

-- The length of the file of a row.
abbrev pub written_length : List ℕ → ℕ
written_length row = 8 + 2 * (length row - 1) + 4 * base_of row

-- The file stands at the front of the memory, and later bytes are as they were.
pub record Saved (row : List ℕ) (entry : ℕ → Option ℕ) (before : List ℕ) (size : ℕ) (after : List ℕ) : Type 0 where
  pub length_is : size ≡ written_length row
  pub room : size ≤ length before
  pub front : after ≡ written row entry ++ drop size before

-- The memory is too short: the reason names the length that is needed, and nothing is touched.
pub record Unsaved (row : List ℕ) (before : List ℕ) (reason : Refusal) (after : List ℕ) : Type 0 where
  pub named : reason ≡ NoRoom (written_length row)
  pub short : length before < written_length row
  pub same : after ≡ before

-- what save answers, and what the memory holds before and after
abbrev pub Saves : List ℕ → (ℕ → Option ℕ) → List ℕ → Result ℕ Refusal → List ℕ → Type 0
Saves row entry before (Ok size) after = Saved row entry before size after
Saves row entry before (Err reason) after = Unsaved row before reason after
