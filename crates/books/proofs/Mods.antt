-- Remainders: sums and multiples, one step of Euclid's algorithm, and the places of a ring that a walk by the unit comes to.
use Rattle.std.proofs.Common.{◌≡◌, ℕ, zero, suc, ◌+◌, ◌-◌, ◌*◌, ◌/◌, ◌%◌, ◌<◌, ◌≤◌, sym, refl, ap, ◌∙◌, add-zero, add_assoc, mod-lt, mod-eq_of_lt, mul_assoc, suc-mul, mul_comm, add-mul, add_comm, mul-zero, zero-mul, mul_right_comm, arith}
use native.Mathlib.Nat.{add-mod, add-mul-mod_self_left, div-add-mod, div-mul_cancel, dvd_of_mod-eq-zero, le_of_dvd, mod-mod_of_dvd, mul-sub, zero-mod}
use Rattle.std.proofs.lemmas.Nat.{mul-le, le-div}
use Rattle.books.specs.Rings.{Common}

-- sums of numbers that leave the same leave the same
pub same_add : (m a b c d : ℕ) → a % m ≡ b % m → c % m ≡ d % m → (a + c) % m ≡ (b + d) % m
same_add m a b c d p q =
    add-mod a c m ∙ ap (λ (x : ℕ). (x + c % m) % m) p ∙ ap (λ (x : ℕ). (b % m + x) % m) q ∙ sym (add-mod b d m)

-- multiples of numbers that leave the same leave the same
pub same_mul : (m k a b : ℕ) → a % m ≡ b % m → (k * a) % m ≡ (k * b) % m
same_mul m zero a b p = ap (λ (x : ℕ). x % m) (zero-mul a ∙ sym (zero-mul b))
same_mul m (suc k) a b p =
    ap (λ (x : ℕ). x % m) (suc-mul k a) ∙ same_add m (k * a) (k * b) a b (same_mul m k a b p) p
    ∙ sym (ap (λ (x : ℕ). x % m) (suc-mul k b))

-- a multiple of what leaves nothing leaves nothing
none_mul : (m k a : ℕ) → a % m ≡ 0 → (k * a) % m ≡ 0 % m
none_mul m k a p = same_mul m k a 0 (p ∙ sym (zero-mod m)) ∙ ap (λ (z : ℕ). z % m) (mul-zero k)

-- a multiple of m more leaves the same
same_more : (m a q : ℕ) → (a + m * q) % m ≡ a % m
same_more m a q = add-mul-mod_self_left a m q

-- where multiples of g leave by m what a and b leave, one leaves what a % b leaves
pub euclid : (m g a b x y : ℕ) → 1 ≤ m → (x * g) % m ≡ a % m → (y * g) % m ≡ b % m
    → ((x + (m - 1) * (a / b) * y) * g) % m ≡ (a % b) % m
euclid m g a b x y h p q =
    let k : ℕ = (m - 1) * (a / b) in
    let spread : (x + k * y) * g ≡ x * g + k * (y * g) = add-mul x (k * y) g ∙ ap (λ (z : ℕ). x * g + z) (mul_assoc k y g) in
    let joined : (x * g + k * (y * g)) % m ≡ (a + k * b) % m =
    same_add m (x * g) a (k * (y * g)) (k * b) p (same_mul m k (y * g) b q) in
    let down : m ≡ (m - 1) + 1 = omega arith in
    let lots : m * (b * (a / b)) ≡ (m - 1) * (b * (a / b)) + b * (a / b) =
    ap (λ (z : ℕ). z * (b * (a / b))) down ∙ add-mul (m - 1) 1 (b * (a / b)) ∙ omega arith in
    let turned : k * b ≡ (m - 1) * (b * (a / b)) =
    mul_assoc (m - 1) (a / b) b ∙ ap (λ (z : ℕ). (m - 1) * z) (mul_comm (a / b) b) in
    let all : a + k * b ≡ a % b + m * (b * (a / b)) = omega (arith, div-add-mod a b, lots, turned) in
    ap (λ (z : ℕ). z % m) spread ∙ joined ∙ ap (λ (z : ℕ). z % m) all ∙ same_more m (a % b) (b * (a / b))

-- numbers that leave the same by d are a multiple of d apart
pub apart : (d a b : ℕ) → a % d ≡ b % d → b ≤ a → a ≡ b + (a / d - b / d) * d
apart d a b p h =
    omega (arith, div-add-mod a d, div-add-mod b d, mul_comm (a / d - b / d) d, mul-sub d (a / d) (b / d))

-- below s no number leaves s by d
pub class_below : (d s r : ℕ) → s < d → r < s → r % d ≡ s → ⊥
class_below d s r h l e = let q : r % d ≡ r = mod-eq_of_lt (omega arith) in omega (arith, e, q)

module _ (m g d : ℕ) (some : 1 ≤ m) (k : Common m g d) where
  -- a ring has m / d remainders, at least one and at most m
  ring_length : m / d * d ≡ m
  ring_length = div-mul_cancel d (dvd_of_mod-eq-zero d k.base)

  pub ring_some : 1 ≤ m / d
  ring_some = le-div 1 m d k.some (omega (arith, le_of_dvd some (dvd_of_mod-eq-zero d k.base)))

  pub ring_short : m / d ≤ m
  ring_short = omega (arith, ring_length, mul-le (m / d) 1 (m / d) d (omega arith) k.some)

  -- the units of a whole round are a multiple of m
  ring_round : m / d * g ≡ m * (g / d)
  ring_round =
      let e : g / d * d ≡ g = div-mul_cancel d (dvd_of_mod-eq-zero d k.unit) in
      ap (λ (z : ℕ). m / d * z) (sym e ∙ mul_comm (g / d) d) ∙ sym (mul_assoc (m / d) d (g / d))
      ∙ ap (λ (z : ℕ). z * (g / d)) ring_length

  pub ring_closes : (a : ℕ) → (a + m / d * g) % m ≡ a % m
  ring_closes a = ap (λ (z : ℕ). (a + z) % m) ring_round ∙ same_more m a (g / d)

  -- what a load leaves by d it leaves at its remainder by m
  pub class_at : (a : ℕ) → (a % m) % d ≡ a % d
  class_at a = mod-mod_of_dvd d a (dvd_of_mod-eq-zero d k.base)

  -- units lead from a ring to no other
  pub class_add : (a times : ℕ) → (a + times * g) % d ≡ a % d
  class_add a times =
      same_add d a a (times * g) 0 refl (none_mul d times g k.unit) ∙ ap (λ (z : ℕ). z % d) (add-zero a)

  pub ring_class : (a times : ℕ) → ((a + times * g) % m) % d ≡ a % d
  ring_class a times = class_at (a + times * g) ∙ class_add a times

  -- some number of units leads from low to each remainder of its ring
  far : (low r : ℕ) → r < m → r % d ≡ low % d → (j : ℕ) × ((low + j * g) % m ≡ r)
  far low r lt e =
      let over : ℕ = r + m * low in
      let q : ℕ = over / d - low / d in
      let up : low ≤ over = omega (arith, mul-le 1 low m low some (omega arith)) in
      let same : over % d ≡ low % d =
      same_add d r r (m * low) 0 refl (ap (λ (z : ℕ). z % d) (mul_comm m low) ∙ none_mul d low m k.base)
      ∙ ap (λ (z : ℕ). z % d) (add-zero r) ∙ e in
      let by : over ≡ low + q * d = apart d over low same up in (
        q * k.times,
        ap (λ (z : ℕ). (low + z) % m) (mul_assoc q k.times g)
            ∙ same_add m low low (q * (k.times * g)) (q * d) refl (same_mul m q (k.times * g) d k.reaches)
            ∙ ap (λ (z : ℕ). z % m) (sym by) ∙ same_more m r low ∙ mod-eq_of_lt lt,
      )

  -- and fewer than m / d units do
  pub ring_covers : (low r : ℕ) → r < m → r % d ≡ low % d → (j : ℕ) × (j < m / d) × ((low + j * g) % m ≡ r)
  ring_covers low r lt e =
      let f : (j : ℕ) × ((low + j * g) % m ≡ r) = far low r lt e in
      let j : ℕ = f.0 in
      let len : ℕ = m / d in
      let split : j * g ≡ j % len * g + m * (g / d * (j / len)) =
      ap (λ (z : ℕ). z * g) (sym (div-add-mod j len)) ∙ add-mul (len * (j / len)) (j % len) g
      ∙ add_comm (len * (j / len) * g) (j % len * g)
      ∙ ap (λ (z : ℕ). j % len * g + z) (mul_right_comm len (j / len) g ∙ ap (λ (z : ℕ). z * (j / len)) ring_round ∙ mul_assoc m (g / d) (j / len)) in (
        j % len,
        mod-lt j ring_some,
        sym (same_more m (low + j % len * g) (g / d * (j / len)))
            ∙ ap (λ (z : ℕ). z % m) (add_assoc low (j % len * g) (m * (g / d * (j / len))) ∙ ap (λ (z : ℕ). low + z) (sym split))
            ∙ f.1,
      )
