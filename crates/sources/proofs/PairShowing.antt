-- Why a pair shows its row: the two units are in order, and their entries are the table of it.
use Rattle.std.proofs.Common.{◌≡◌, ℕ, zero, suc, ◌<◌, ◌≤◌, length, get_or, arith}
use Rattle.tables.specs.Rows.{Row, Table}
use Rattle.sources.specs.NewPairs.{pair_entry, pair_row}
use Rattle.sources.proofs.PairIs.{pair_is}
use Rattle.sources.specs.declared.pair.stored.Pair.{Pair}

module _ (pair : Pair) where
  pub pair_table : Table (pair_row pair) (pair_entry pair)
  pair_table = (pair_is pair).table

  pub pair_ordered : Row (pair_row pair)
  pair_ordered = record { some = omega arith; few = omega arith; base = pair.high; sizes = sizes; rises = rises; apart = apart }
    where
      sizes : (i : ℕ) → i < length (pair_row pair) → (1 ≤ get_or (pair_row pair) i 0) × (get_or (pair_row pair) i 0 ≤ 65535)
      sizes zero h = (pair.low, omega (arith, pair.high))
      sizes (suc zero) h = (pair.some, pair.fits)
      sizes (suc (suc i)) h = absurd (omega arith)

      rises : (i j : ℕ) → 1 ≤ i → i < j → j < length (pair_row pair) → get_or (pair_row pair) i 0 < get_or (pair_row pair) j 0
      rises i j one less h = absurd (omega arith)

      apart : (i : ℕ) → 1 ≤ i → i < length (pair_row pair) → get_or (pair_row pair) i 0 ≡ pair.base → ⊥
      apart zero one h e = absurd (omega arith)
      apart (suc zero) one h e = pair.apart e
      apart (suc (suc i)) one h e = absurd (omega arith)
