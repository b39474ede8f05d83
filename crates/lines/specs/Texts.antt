-- A language is the texts of which a predicate holds. Where bytes cease to be the front of a text of a language.
use Rattle.std.specs.Prelude.{ℕ, ◌+◌, ◌<◌, ◌≤◌, List, ◌++◌, length, take}

-- some text of the language begins with these bytes
pub record Starts (Texts : List ℕ → Type 0) (bytes : List ℕ) : Type 0 where
  pub rest : List ℕ
  pub whole : Texts (bytes ++ rest)

-- The bytes are no text of the language, and the place, counted from 0, is the first at which none goes on: some text begins with the
-- bytes before it, and none with those up to and including it. Where the bytes end too early, the place is one past the last.
pub record Stops (Texts : List ℕ → Type 0) (bytes : List ℕ) (place : ℕ) : Type 0 where
  pub within : place ≤ length bytes
  pub before : Starts Texts (take place bytes)
  pub here : place < length bytes → Starts Texts (take (place + 1) bytes) → ⊥
  pub unread : Texts bytes → ⊥
