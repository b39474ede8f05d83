use Rattle.std.proofs.Common.{◌≡◌, ℕ, ◌*◌, ◌%◌, ◌<◌}
use Prim.Native.Nat.{◌∣◌}
use Rattle.books.proofs.rings.common_divisor.Given as goal

abbrev pub invariant-loop-b : goal.invariant-loop-b
invariant-loop-b l =
    (0 < l.a)
    × ((x : ℕ) × ((x * l.unit) % l.base ≡ l.a % l.base))
    × ((y : ℕ) × ((y * l.unit) % l.base ≡ l.b % l.base))
    × ((k : ℕ) → k ∣ l.a → k ∣ l.b → (k ∣ l.base) × (k ∣ l.unit))

abbrev pub decreases-loop-b : goal.decreases-loop-b
decreases-loop-b l = l.b
