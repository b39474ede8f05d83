-- Numbers as bytes, the high byte first.
use Rattle.std.specs.Prelude.{ℕ, ◌+◌, ◌*◌, ◌/◌, ◌%◌, ◌<◌, List, [], ◌∷◌, map, slice_index}
use Rattle.std.specs.List.{range_with_len}

-- The two bytes of a number below 65,536.
abbrev pub be16 : ℕ → List ℕ
be16 n = (n / 256 % 256) ∷ (n % 256) ∷ []

-- The four bytes of a number below 4,294,967,296.
abbrev pub be32 : ℕ → List ℕ
be32 n = (n / 16777216 % 256) ∷ (n / 65536 % 256) ∷ (n / 256 % 256) ∷ (n % 256) ∷ []

-- So many bytes of a file, from an offset on. Past the end a byte reads as 0.
abbrev pub bytes_at : List ℕ → ℕ → ℕ → List ℕ
bytes_at bytes p n = map (slice_index bytes) (range_with_len p n)

-- The number that two bytes of a file make up, from an offset on. Past the end a byte reads as 0.
abbrev pub at16 : List ℕ → ℕ → ℕ
at16 bytes p = slice_index bytes p * 256 + slice_index bytes (p + 1)

-- The number that four bytes of a file make up.
abbrev pub at32 : List ℕ → ℕ → ℕ
at32 bytes p = slice_index bytes p * 16777216 + slice_index bytes (p + 1) * 65536 + slice_index bytes (p + 2) * 256 + slice_index bytes (p + 3)

-- Each number of a list is a byte.
abbrev pub Bytes : List ℕ → Type 0
Bytes bytes = (i : ℕ) → slice_index bytes i < 256
