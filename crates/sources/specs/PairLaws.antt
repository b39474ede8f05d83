-- Why the entries of a pair keep the sentences of a source, and are the first of 0, other, 2 other, .. that leave each remainder.
use Rattle.std.specs.Prelude.{◌≡◌, ℕ, ◌+◌, ◌*◌, ◌/◌, ◌%◌, ◌<◌, ◌≤◌, Bool, true, false, cond, Some, None, nat_lt, refl}
use Rattle.std.proofs.Common.{sym, ap, ◌∙◌, add-mul, mul_assoc, mul_comm, one-mul, mod-lt, mod-eq_of_lt, zero-mul, mul-le-mul, arith}
use Rattle.std.proofs.Math.Nat.{div-add-mod, mul-add-mod_self_left, mod-le, zero-mod}
use Rattle.std.proofs.lemmas.Bool.{ltb-true, lt-ltb, le-ltb}
use Rattle.tables.specs.Tables.{Lawful}
use Rattle.sources.specs.Pairs.{Inverts, paired, First}

-- a factor may be reduced first
pub mod_times : (x y m : ℕ) → (x % m * y) % m ≡ (x * y) % m
mod_times x y m =
    let parts : x * y ≡ m * (x / m * y) + x % m * y =
    ap (λ (t : ℕ). t * y) (sym (div-add-mod x m))
    ∙ add-mul (m * (x / m)) (x % m) y
    ∙ ap (λ (t : ℕ). t + x % m * y) (mul_assoc m (x / m) y) in
    sym (ap (λ (t : ℕ). t % m) parts ∙ mul-add-mod_self_left m (x / m * y) (x % m * y))

module _ (base other inverse : ℕ) (inverts : Inverts base other inverse) where
  -- the inverse undoes the other unit
  undoes : (n : ℕ) → (other * inverse * n) % base ≡ n % base
  undoes n =
      sym (mod_times (other * inverse) n base)
      ∙ ap (λ (t : ℕ). (t * n) % base) inverts
      ∙ mod_times 1 n base
      ∙ ap (λ (t : ℕ). t % base) (one-mul n)

  leaves : (r : ℕ) → ((r * inverse) % base * other) % base ≡ r % base
  leaves r =
      let turned : r * inverse * other ≡ other * inverse * r =
      mul_assoc r inverse other ∙ mul_comm r (inverse * other) ∙ ap (λ (t : ℕ). t * r) (mul_comm inverse other) in
      mod_times (r * inverse) other base ∙ ap (λ (t : ℕ). t % base) turned ∙ undoes r

  -- fewer turns leave another remainder
  first : (r j : ℕ) → (j * other) % base ≡ r → (r * inverse) % base ≤ j
  first r j h =
      let turned : j * other * inverse ≡ other * inverse * j = mul_assoc j other inverse ∙ mul_comm j (other * inverse) in
      let same : (r * inverse) % base ≡ j % base =
      ap (λ (t : ℕ). (t * inverse) % base) (sym h) ∙ mod_times (j * other) inverse base ∙ ap (λ (t : ℕ). t % base) turned ∙ undoes j in
      omega (arith, mod-le j base)

  pub entry_first : (r : ℕ) → r < base → First base other r ((r * inverse) % base * other)
  entry_first r low =
      record { turns = (r * inverse) % base; is = refl; leaves = leaves r ∙ mod-eq_of_lt low; first = first r }

  some_is : (t : Bool) (x e : ℕ) → cond t (Some x) None ≡ Some e → (t ≡ true) × (x ≡ e)
  some_is true x e h = (refl, cc)
  some_is false x e h = absurd (let z : ◌≡◌ {A = ℕ} 0 1 = cc in omega arith)

  -- a present entry, with its remainder below the base
  present_is : (r e : ℕ) → paired base other inverse r ≡ Some e → (r < base) × ((r * inverse) % base * other ≡ e)
  present_is r e h = let s = some_is (nat_lt r base) ((r * inverse) % base * other) e h in (ltb-true r base s.0, s.1)

  pub entry_below : (r : ℕ) → r < base → paired base other inverse r ≡ Some ((r * inverse) % base * other)
  entry_below r low = ap (λ (u : Bool). cond u (Some ((r * inverse) % base * other)) None) (lt-ltb r base low)

  pub entry_past : (r : ℕ) → base ≤ r → paired base other inverse r ≡ None
  entry_past r past = ap (λ (u : Bool). cond u (Some ((r * inverse) % base * other)) None) (le-ltb r base past)

  pub paired_lawful : 1 ≤ base → base ≤ 4096 → other ≤ 65535 → Lawful base (paired base other inverse)
  paired_lawful low high small = record {
    low = low;
    high = high;
    zero =
        let z : (0 * inverse) % base * other ≡ 0 =
        ap (λ (t : ℕ). t % base * other) (zero-mul inverse) ∙ ap (λ (t : ℕ). t * other) (zero-mod base) ∙ zero-mul other in
        entry_below 0 low ∙ ap Some z;
    past = entry_past;
    leaves = λ r e h.
        let p = present_is r e h in ap (λ (t : ℕ). t % base) (sym p.1) ∙ leaves r ∙ mod-eq_of_lt p.0;
    fits = λ r e h.
        let lt : (r * inverse) % base < base = mod-lt (r * inverse) low in
        let le : (r * inverse) % base ≤ 4095 = omega arith in
        let product : (r * inverse) % base * other ≤ 4095 * 65535 = mul-le-mul le small in
        omega (arith, (present_is r e h).1);
  }
