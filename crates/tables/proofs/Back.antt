-- The remainder from which a unit leads to another: there is one, and no other.
use Rattle.std.proofs.Common.{◌≡◌, ℕ, ◌+◌, ◌-◌, ◌*◌, ◌/◌, ◌%◌, ◌<◌, ◌≤◌, sym, ap, ◌∙◌, mod-lt, mod-eq_of_lt, mul-add, arith}
use native.Mathlib.Nat.{mod-add-mod, div-add-mod, add-mul-mod_self_left}
use Rattle.tables.specs.Steps.{back}

-- a unit and what it lacks of a number of bases
whole : (m g n : ℕ) → 1 ≤ m → n < m → (n + g + (m - g % m)) % m ≡ n
whole m g n some low =
    let q : m * (g / m) + g % m ≡ g = div-add-mod g m in
    let l : g % m < m = mod-lt g some in
    let e : n + g + (m - g % m) ≡ n + m * (g / m + 1) = omega (arith, mul-add m (g / m) 1) in
    ap (λ k. k % m) e ∙ add-mul-mod_self_left n m (g / m + 1) ∙ mod-eq_of_lt low

pub back_is : (m g r from : ℕ) → 1 ≤ m → from < m → (from + g) % m ≡ r → from ≡ back m g r
back_is m g r from some low brings =
    sym (ap (λ k. (k + (m - g % m)) % m) (sym brings) ∙ mod-add-mod (from + g) m (m - g % m) ∙ whole m g from some low)

pub back_brings : (m g r : ℕ) → 1 ≤ m → r < m → (back m g r + g) % m ≡ r
back_brings m g r some low =
    let e : r + (m - g % m) + g ≡ r + g + (m - g % m) = omega arith in
    mod-add-mod (r + (m - g % m)) m g ∙ ap (λ k. k % m) e ∙ whole m g r some low
