-- A turn of Euclid's way, and that what it finds is the greatest common divisor.
use Rattle.std.proofs.Common.{◌≡◌, ℕ, ◌+◌, ◌-◌, ◌*◌, ◌/◌, ◌%◌, ◌≤◌, sym, ap, ◌∙◌, subst, mod-lt, mul_assoc, mul_comm, mul-le-mul_left, mul-one, mul-add, arith}
use Prim.Native.Nat.{◌∣◌}
use native.Mathlib.Nat.{div-add-mod, mod_self, mul-sub, mul-div_right, add-mul-mod_self_left, dvd_of_mod-eq-zero, mod-eq-zero_of_dvd, dvd-mod_iff, dvd-mul_right_of_dvd, le_of_dvd}
use Rattle.sources.specs.Divisors.{Common, Greatest, Solved}
use Rattle.sources.specs.PairLaws.{mod_times}

-- the base divides the other unit
pub solved_whole : (base other : ℕ) → 1 ≤ base → 1 ≤ other → other % base ≡ 0 → Solved base other base 1
solved_whole base other low some e = record {
  some = low;
  common = record { of_base = mod_self base; of_other = e };
  within = le_of_dvd some (dvd_of_mod-eq-zero base e);
  low = omega arith;
  high = low;
  leaves = ap (λ (n : ℕ). n % base) (mul-one other) ∙ e ∙ sym (mod_self base);
}

-- two numbers that leave the same lie some turns apart
apart : (x d r : ℕ) → 1 ≤ r → d ≤ x → x % r ≡ d % r → x ≡ d + r * ((x - d) / r)
apart x d r some le e =
    let p = div-add-mod x r in
    let q = div-add-mod d r in
    let s = mul-sub r (x / r) (d / r) in
    let between : x - d ≡ r * (x / r - d / r) = omega arith in
    let turns : (x - d) / r ≡ x / r - d / r = ap (λ (n : ℕ). n / r) between ∙ mul-div_right (x / r - d / r) some in
    let product : r * ((x - d) / r) ≡ x - d = ap (λ (n : ℕ). r * n) turns ∙ sym between in
    omega arith

module _ (base other d times : ℕ) (low : 1 ≤ base) (some : 1 ≤ other) (more : other % base ≡ 0 → ⊥) (below : Solved (other % base) base d times) where
  pub enough : d ≤ base * times
  enough =
      let w = below.within in
      let l : base * 1 ≤ base * times = mul-le-mul_left base below.low in
      omega (arith, mul-one base)

  divides : other % d ≡ 0
  divides =
      let both = dvd-mod_iff d (dvd_of_mod-eq-zero d below.common.of_other) in
      mod-eq-zero_of_dvd d (both.0 (dvd_of_mod-eq-zero d below.common.of_base))

  abbrev rest : ℕ
  rest = other % base

  abbrev turns : ℕ
  turns = (base * times - d) / rest

  abbrev kept : ℕ
  kept = base - turns % base

  turned : base * times ≡ d + rest * turns
  turned = apart (base * times) d rest (omega arith) enough below.leaves

  -- the turns and what is taken in their place are whole bases together
  whole : kept + turns ≡ base * (1 + turns / base)
  whole = omega (arith, mod-lt turns low, div-add-mod turns base, mul-add base 1 (turns / base), mul-one base)

  summed : rest * kept + base * times ≡ d + base * (rest * (1 + turns / base))
  summed =
      let q : rest * (kept + turns) ≡ base * (rest * (1 + turns / base)) =
      ap (λ (n : ℕ). rest * n) whole
      ∙ sym (mul_assoc rest base (1 + turns / base))
      ∙ ap (λ (n : ℕ). n * (1 + turns / base)) (mul_comm rest base)
      ∙ mul_assoc base rest (1 + turns / base) in
      omega (arith, turned, mul-add rest kept turns)

  pub solved_more : Solved base other d (base - (base * times - d) / (other % base) % base)
  solved_more = record {
    some = below.some;
    common = record { of_base = below.common.of_other; of_other = divides };
    within = le_of_dvd some (dvd_of_mod-eq-zero d divides);
    low = omega (arith, mod-lt turns low);
    high = omega (arith, mod-lt turns low);
    leaves =
        sym (mod_times other kept base)
        ∙ sym (add-mul-mod_self_left (rest * kept) base times)
        ∙ ap (λ (n : ℕ). n % base) summed
        ∙ add-mul-mod_self_left d base (rest * (1 + turns / base));
  }

-- whatever divides both divides what they leave
pub solved_greatest : (base other d times : ℕ) → Solved base other d times → Greatest base other d
solved_greatest base other d times s =
    record { common = s.common; most = λ e c. le_of_dvd s.some (divides_found e c) }
  where
    divides_found : (e : ℕ) → Common base other e → e ∣ d
    divides_found e c =
        let of_base : e ∣ base = dvd_of_mod-eq-zero e c.of_base in
        let taken : e ∣ other * times = dvd-mul_right_of_dvd e (dvd_of_mod-eq-zero e c.of_other) times in
        let left : e ∣ d % base = subst (λ (n : ℕ). e ∣ n) s.leaves ((dvd-mod_iff e of_base).1 taken) in
        (dvd-mod_iff e of_base).0 left
