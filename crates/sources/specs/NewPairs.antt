-- What a new pair is, and why none is made.
use Rattle.std.specs.Prelude.{◌≡◌, ℕ, ◌<◌, ◌≤◌, ◌⊎◌, List, [], ◌∷◌, Some, None, Ok, Err, Option, Result}
use Rattle.sources.specs.Divisors.{Common, Greatest}
use Rattle.sources.specs.Pairs.{paired, First}
use Rattle.sources.specs.declared.pair.stored.Pair.{Pair}
use Rattle.tables.specs.Ranges.{InRange}
use Rattle.tables.specs.Rows.{Table}
use Rattle.tables.specs.declared.refusals.Refusal.{Refusal}
use Rattle.tables.specs.declared.refusals.Refusal.TheVariants.{OutOfRange, AlreadyAdmitted, CommonDivisor}

-- The entries of a pair.
abbrev pub pair_entry : Pair → ℕ → Option ℕ
pair_entry pair = paired pair.base pair.other pair.inverse

-- The row of a pair: its base and its other unit.
abbrev pub pair_row : Pair → List ℕ
pair_row pair = pair.base ∷ pair.other ∷ []

-- There is an entry at r: the first of 0, other, 2 other, .. that leaves r by the base.
pub record Enters (base other : ℕ) (entry : ℕ → Option ℕ) (r : ℕ) : Type 0 where
  pub load : ℕ
  pub present : entry r ≡ Some load
  pub first : First base other r load

-- The pair of a base and another unit. The last part follows from the two before it, and says it in the words of rows: each
-- entry is the least load of its remainder that the two units make.
pub record Paired (base other : ℕ) (pair : Pair) : Type 0 where
  pub base_is : pair.base ≡ base
  pub other_is : pair.other ≡ other
  pub base_range : InRange 4096 base
  pub other_range : InRange 65535 other
  pub apart : other ≡ base → ⊥
  pub coprime : (d : ℕ) → Common base other d → d ≡ 1
  pub entries : (r : ℕ) → r < base → Enters base other (pair_entry pair) r
  pub past : (r : ℕ) → base ≤ r → pair_entry pair r ≡ None
  pub table : Table (base ∷ other ∷ []) (pair_entry pair)

-- The base is out of its range.
pub record BaseOut (base : ℕ) (reason : Refusal) : Type 0 where
  pub named : reason ≡ OutOfRange base
  pub out : InRange 4096 base → ⊥

-- The base is in its range, and the other unit is not.
pub record OtherOut (base other : ℕ) (reason : Refusal) : Type 0 where
  pub named : reason ≡ OutOfRange other
  pub base_range : InRange 4096 base
  pub out : InRange 65535 other → ⊥

-- Both are in their ranges, and equal.
pub record Equal (base other : ℕ) (reason : Refusal) : Type 0 where
  pub named : reason ≡ AlreadyAdmitted other
  pub base_range : InRange 4096 base
  pub other_range : InRange 65535 other
  pub same : other ≡ base

-- Both are in their ranges and differ, and the greatest number that divides both is above 1.
pub record Shared (base other : ℕ) (reason : Refusal) : Type 0 where
  pub divisor : ℕ
  pub named : reason ≡ CommonDivisor divisor
  pub base_range : InRange 4096 base
  pub other_range : InRange 65535 other
  pub apart : other ≡ base → ⊥
  pub above : 1 < divisor
  pub greatest : Greatest base other divisor

-- No pair is made: the reason is the first of these.
abbrev pub Unpaired : ℕ → ℕ → Refusal → Type 0
Unpaired base other reason =
    BaseOut base reason ⊎ OtherOut base other reason ⊎ Equal base other reason ⊎ Shared base other reason

-- What comes of a base and another unit.
abbrev pub New : ℕ → ℕ → Result Pair Refusal → Type 0
New base other (Ok pair) = Paired base other pair
New base other (Err reason) = Unpaired base other reason
