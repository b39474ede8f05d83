-- What stands after the letter of a line: the languages that it is made of, and how its readers refuse.
use Rattle.std.specs.Prelude.{◌≡◌, ℕ, ◌+◌, ◌<◌, ◌≤◌, List, [], ◌∷◌, ◌++◌, length, take, drop, decimal, slice_index}
use Rattle.tables.specs.declared.refusals.Refusal.{Refusal}
use Rattle.tables.specs.declared.refusals.Refusal.TheVariants.{Unreadable}
use Rattle.lines.specs.Texts.{Stops}
use Rattle.lines.specs.Numbers.{Digit, NumberThen}

-- The language of one byte and then a text of the language Rest.
pub record After (byte : ℕ) (Rest : List ℕ → Type 0) (bytes : List ℕ) : Type 0 where
  pub rest : List ℕ
  pub follows : Rest rest
  pub is : byte ∷ rest ≡ bytes

-- The language of the end of a line: byte 10 and nothing more.
abbrev pub End : List ℕ → Type 0
End bytes = bytes ≡ 10 ∷ []

-- The language of one space, a number of at most `most`, and then a text of the language Rest.
abbrev pub Spaced : ℕ → (List ℕ → Type 0) → List ℕ → Type 0
Spaced most Rest = After 32 (NumberThen most Rest)

-- One space and a number of at most `most` stand in front of the bytes: the number's value, and the place at which it ends.
pub record SpacedNumber (most : ℕ) (bytes : List ℕ) (value end : ℕ) : Type 0 where
  pub fits : value ≤ most
  pub short : end ≤ 11
  pub within : end < length bytes
  pub is : take end bytes ≡ 32 ∷ decimal value
  pub after : Digit (slice_index bytes end) → ⊥

-- One space and a number of at most `most` stand in front of the bytes, the first of which stands at a column: the number's value, what is
-- left behind it, and the column of that.
pub record Passes (most : ℕ) (bytes : List ℕ) (column value : ℕ) (left : List ℕ) (past : ℕ) : Type 0 where
  pub end : ℕ
  pub number : SpacedNumber most bytes value end
  pub behind : left ≡ drop end bytes
  pub at : past ≡ column + end

-- The bytes are one space, a number of at most `most` and the end of a line: the number's value.
pub record LastNumber (most : ℕ) (bytes : List ℕ) (value : ℕ) : Type 0 where
  pub fits : value ≤ most
  pub is : 32 ∷ (decimal value ++ (10 ∷ [])) ≡ bytes

-- The bytes, the first of which stands at a column, are no text of the language: the reason names the column of the first byte at which none goes on.
pub record Breaks (Texts : List ℕ → Type 0) (bytes : List ℕ) (column : ℕ) (reason : Refusal) : Type 0 where
  pub place : ℕ
  pub named : reason ≡ Unreadable (column + place)
  pub stops : Stops Texts bytes place
