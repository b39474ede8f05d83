-- The first fault of a file that is not well-formed, by its offset.
use Rattle.std.specs.Prelude.{◌≡◌, ℕ, ◌<◌, ◌≤◌, ◌⊎◌, Bool, true, false, List, length}
use Rattle.files.specs.Layout.{Kept, Keeps, WellFormed, fields, field_start, field_end, proper_length}

-- The first fault, from the front, stands at the offset. A field that is cut short is not judged, whatever bytes of it there are.
pub data Fault (bytes : List ℕ) (offset : ℕ) : Type 0 where
  -- the first field that breaks its rule: where it begins
  broken : (field : ℕ) → field < fields bytes → Kept bytes field → field_end field ≤ length bytes → (Keeps bytes field → ⊥) → offset ≡ field_start field → Fault bytes offset
  -- the first field that is cut short: the file's length
  cut : (field : ℕ) → field < fields bytes → Kept bytes field → length bytes < field_end field → offset ≡ length bytes → Fault bytes offset
  -- the entries are cut short: the file's length
  short : Kept bytes (fields bytes) → length bytes < proper_length bytes → offset ≡ length bytes → Fault bytes offset
  -- bytes follow the entries: the proper length
  long : Kept bytes (fields bytes) → proper_length bytes < length bytes → offset ≡ proper_length bytes → Fault bytes offset

-- A field that ends at the offset is not cut short, and a test of its rule says that it keeps it.
pub record FieldWhole (bytes : List ℕ) (end : ℕ) (keeps : Bool) : Type 0 where
  pub ends : end ≤ length bytes
  pub rule : keeps ≡ true

-- What is at fault with a field from its start to its end, by the offset.
pub data FieldFault (bytes : List ℕ) (start end : ℕ) (keeps : Bool) (offset : ℕ) : Type 0 where
  -- it is cut short: the file's length
  field_cut : length bytes < end → offset ≡ length bytes → FieldFault bytes start end keeps offset
  -- it breaks its rule: where it begins
  field_broken : end ≤ length bytes → keeps ≡ false → offset ≡ start → FieldFault bytes start end keeps offset

-- A file has one first fault at most.
abbrev pub OneFault : List ℕ → Type 0
OneFault bytes = (a b : ℕ) → Fault bytes a → Fault bytes b → a ≡ b

-- A well-formed file has none.
abbrev pub NoFault : List ℕ → Type 0
NoFault bytes = (offset : ℕ) → Fault bytes offset → WellFormed bytes → ⊥

-- A file is well-formed, or else it has a first fault, and just one.
pub record FirstFault (bytes : List ℕ) : Type 0 where
  pub either : WellFormed bytes ⊎ ((offset : ℕ) × Fault bytes offset)
  pub one : OneFault bytes
  pub none : NoFault bytes
