-- Where the fields of a table file stand, what they say, and which files are well-formed.
-- What lies past the end of a file reads as 0, so that each of these words has a meaning for any bytes.
use Rattle.std.specs.Prelude.{◌≡◌, ℕ, zero, suc, ◌+◌, ◌-◌, ◌*◌, ◌<◌, ◌≤◌, cond, List, [], ◌∷◌, length, take, Some, None, Option, nat_lt, slice_index}
use Rattle.files.specs.Fields.{at16, at32}

-- The letters RTB.
abbrev pub letters : List ℕ
letters = 82 ∷ 84 ∷ 66 ∷ []

-- The version that a file names.
abbrev pub file_version : List ℕ → ℕ
file_version bytes = at16 bytes 3

-- The number of units that a file names, the base included.
abbrev pub file_units : List ℕ → ℕ
file_units bytes = slice_index bytes 5

-- The base that a file names.
abbrev pub file_base : List ℕ → ℕ
file_base bytes = at16 bytes 6

-- The size of the other unit at a place, from 0 up.
abbrev pub file_size : List ℕ → ℕ → ℕ
file_size bytes i = at16 bytes (8 + 2 * i)

-- The sizes of n other units from a place on.
abbrev pub sizes_from : List ℕ → ℕ → ℕ → List ℕ
sizes_from bytes i zero = []
sizes_from bytes i (suc n) = file_size bytes i ∷ sizes_from bytes (suc i) n

-- The sizes of the units other than the base.
abbrev pub file_others : List ℕ → List ℕ
file_others bytes = sizes_from bytes 0 (file_units bytes - 1)

-- The row that a file lists: the base, and then the others.
abbrev pub file_row : List ℕ → List ℕ
file_row bytes = file_base bytes ∷ file_others bytes

-- The entry that a number of four bytes stands for: the greatest of them marks an absent entry.
abbrev pub entry_value : ℕ → Option ℕ
entry_value n = cond (nat_lt n 4294967295) (Some n) None

-- The entry that a file lists for a remainder: absent from the base on.
abbrev pub file_entry : List ℕ → ℕ → Option ℕ
file_entry bytes r = cond (nat_lt r (file_base bytes)) (entry_value (at32 bytes (8 + 2 * (file_units bytes - 1) + 4 * r))) None

-- The length of a file of so many units and of this base.
abbrev pub proper_length : List ℕ → ℕ
proper_length bytes = 8 + 2 * (file_units bytes - 1) + 4 * file_base bytes

-- The rule of an other unit's size: not 0, above the one before it, and not the base.
pub record SizeFits (bytes : List ℕ) (i : ℕ) : Type 0 where
  pub some : 1 ≤ file_size bytes i
  pub above : 1 ≤ i → file_size bytes (i - 1) < file_size bytes i
  pub apart : file_size bytes i ≡ file_base bytes → ⊥

-- The fields that have a rule, by number from the front: the letters, the version, the number of units, the base, and then the sizes.
-- This is where each begins.
abbrev pub field_start : ℕ → ℕ
field_start zero = 0
field_start (suc zero) = 3
field_start (suc (suc zero)) = 5
field_start (suc (suc (suc zero))) = 6
field_start (suc (suc (suc (suc i)))) = 8 + 2 * i

-- Each ends where the next one begins.
abbrev pub field_end : ℕ → ℕ
field_end field = field_start (suc field)

-- The field keeps its rule.
abbrev pub Keeps : List ℕ → ℕ → Type 0
Keeps bytes zero = take 3 bytes ≡ letters
Keeps bytes (suc zero) = file_version bytes ≡ 1
Keeps bytes (suc (suc zero)) = (1 ≤ file_units bytes) × (file_units bytes ≤ 16)
Keeps bytes (suc (suc (suc zero))) = (1 ≤ file_base bytes) × (file_base bytes ≤ 4096)
Keeps bytes (suc (suc (suc (suc i)))) = SizeFits bytes i

-- How many fields have a rule.
abbrev pub fields : List ℕ → ℕ
fields bytes = 3 + file_units bytes

-- The first fields of a file, as many as the count says, are not cut short and keep their rules.
abbrev pub Kept : List ℕ → ℕ → Type 0
Kept bytes count = (field : ℕ) → field < count → (field_end field ≤ length bytes) × Keeps bytes field

-- A well-formed file: each field keeps its rule, and the entries end where the file ends.
pub record WellFormed (bytes : List ℕ) : Type 0 where
  pub kept : Kept bytes (fields bytes)
  pub whole : length bytes ≡ proper_length bytes
