-- The units of a row beside its base: what holds of them, and how one more is put among them or one of them left out.
use Rattle.std.specs.Prelude.{◌≡◌, ℕ, ◌*◌, ◌<◌, ◌≤◌, Bool, false, cond, ◌||◌, List, [], ◌∷◌, length, Ok, Err, Result, ◌==◌, ◌≢◌, nat_lt, slice_index}

-- Each size is at least 1.
abbrev pub Sized : List ℕ → Type 0
Sized others = (i : ℕ) → i < length others → 1 ≤ slice_index others i

-- Each size is at most 65,535.
abbrev pub Small : List ℕ → Type 0
Small others = (i : ℕ) → i < length others → slice_index others i ≤ 65535

-- They ascend, so that no two are equal.
abbrev pub Rising : List ℕ → Type 0
Rising others = (i j : ℕ) → i < j → j < length others → slice_index others i < slice_index others j

-- None is the base.
abbrev pub Apart : ℕ → List ℕ → Type 0
Apart base others = (i : ℕ) → i < length others → slice_index others i ≢ base

-- Whether a size stands in a list.
abbrev pub has : ℕ → List ℕ → Bool
has size [] = false
has size (x ∷ xs) = x == size || has size xs

-- The size put in before the first that is larger.
abbrev pub put : ℕ → List ℕ → List ℕ
put size [] = size ∷ []
put size (x ∷ xs) = cond (nat_lt size x) (size ∷ x ∷ xs) (x ∷ put size xs)

-- A row with one more unit, at its ascending place among those after the base.
abbrev pub row_with : ℕ → List ℕ → List ℕ
row_with size [] = []
row_with size (base ∷ others) = base ∷ put size others

-- The sizes without this one.
abbrev pub leave_out : ℕ → List ℕ → List ℕ
leave_out size [] = []
leave_out size (x ∷ xs) = cond (x == size) (leave_out size xs) (x ∷ leave_out size xs)

-- A row without a unit among those after the base.
abbrev pub row_without : ℕ → List ℕ → List ℕ
row_without size [] = []
row_without size (base ∷ others) = base ∷ leave_out size others

-- What is found of a size in ascending sizes: its place, or the place that it would have.
abbrev pub Located : List ℕ → ℕ → Result ℕ ℕ → Type 0
Located sizes size (Ok at) =
    (at < length sizes) × ((i : ℕ) → i < at → slice_index sizes i < size) × (slice_index sizes at ≡ size)
Located sizes size (Err at) =
    (at ≤ length sizes) × ((i : ℕ) → i < at → slice_index sizes i < size) × (at < length sizes → size < slice_index sizes at)

-- The size is a multiple of another one.
pub record Multiple (unit size : ℕ) : Type 0 where
  pub other : unit ≡ size → ⊥
  pub times : ℕ
  pub adds : times * unit ≡ size

-- The size is a multiple of some other unit of the row, the base included.
pub record Spare (row : List ℕ) (size : ℕ) : Type 0 where
  pub position : ℕ
  pub among : position < length row
  pub multiple : Multiple (slice_index row position) size
