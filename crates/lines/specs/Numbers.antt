-- Numbers in front of bytes: in decimal digits with no leading 0, where 0 is one digit, and at most a limit.
use Rattle.std.specs.Prelude.{◌≡◌, ℕ, ◌<◌, ◌≤◌, List, ◌++◌, length, take, decimal, slice_index}
use Rattle.lines.specs.Texts.{Stops}

-- the byte is a digit, 0 to 9
abbrev pub Digit : ℕ → Type 0
Digit byte = (48 ≤ byte) × (byte ≤ 57)

-- A byte stands in front that is no digit, so that a number before these bytes ends there.
pub record Bare (bytes : List ℕ) : Type 0 where
  pub some : 0 < length bytes
  pub first : Digit (slice_index bytes 0) → ⊥

-- The language of a number of at most `most` and then a text of the language Rest.
pub record NumberThen (most : ℕ) (Rest : List ℕ → Type 0) (bytes : List ℕ) : Type 0 where
  pub value : ℕ
  pub fits : value ≤ most
  pub rest : List ℕ
  pub follows : Rest rest
  pub is : decimal value ++ rest ≡ bytes

-- A number of at most `most` stands in front of the bytes: its value, and the place at which it ends, where a byte stands that is no digit.
pub record Numbered (most : ℕ) (bytes : List ℕ) (value end : ℕ) : Type 0 where
  pub fits : value ≤ most
  pub short : end ≤ 10
  pub within : end < length bytes
  pub is : take end bytes ≡ decimal value
  pub after : Digit (slice_index bytes end) → ⊥

-- No number of at most `most` stands in front of the bytes: the place is the first at which none goes on.
pub record Numberless (most : ℕ) (bytes : List ℕ) (place : ℕ) : Type 0 where
  pub short : place ≤ 10
  pub stops : Stops (NumberThen most Bare) bytes place
