-- The one number that stands for a refusal.
use Rattle.std.specs.Prelude.{◌≡◌, ℕ, ◌+◌, ◌*◌, ◌<◌, ◌≤◌, Some, ◌≢◌}
use Rattle.tables.specs.Refusals.{number_of, place_of}
use Rattle.tables.specs.declared.refusals.Refusal.{Refusal}
use Rattle.tables.specs.declared.refusals.Refusal.TheVariants.{NoRoom}

-- The refusal has a number and a place, and the place is below the limit.
pub record Short (limit : ℕ) (reason : Refusal) : Type 0 where
  pub number : ℕ
  pub place : ℕ
  pub numbered : number_of reason ≡ Some number
  pub placed : place_of reason ≡ Some place
  pub some : 1 ≤ number
  pub few : number ≤ 17
  pub below : place < limit

-- The answer stands for the refusal: the high 32 bits are its number, the low 32 bits its place.
pub record Packed (reason : Refusal) (answer : ℕ) : Type 0 where
  pub short : Short 4294967296 reason
  pub packs : answer ≡ short.number * 4294967296 + short.place

-- Want of room is told in bytes, four for each number, and every other refusal as it is.
pub data InBytes : Refusal → Refusal → Type 0 where
  room : (numbers : ℕ) → InBytes (NoRoom numbers) (NoRoom (4 * numbers))
  same : (reason : Refusal) → ((numbers : ℕ) → reason ≢ NoRoom numbers) → InBytes reason reason
