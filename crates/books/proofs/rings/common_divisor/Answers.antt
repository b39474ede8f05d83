use Rattle.std.proofs.Common.{◌≡◌, ℕ, ◌+◌, ◌-◌, ◌*◌, ◌/◌, ◌%◌, sym, ap, ◌∙◌, one-mul, zero-mul, arith}
use Prim.Native.Nat.{◌∣◌}
use native.Mathlib.Nat.{dvd_refl, dvd-zero, dvd-mod_iff, mod-eq-zero_of_dvd, zero-mod, mod_self}
use Rattle.books.proofs.Mods.{euclid}
use Rattle.books.proofs.rings.common_divisor.Goals as goal

pub loop-b-init : goal.loop-b-init
loop-b-init c = (
  c.requires,
  (0, ap (λ (z : ℕ). z % c.args.base) (zero-mul c.args.unit) ∙ zero-mod c.args.base ∙ sym (mod_self c.args.base)),
  (1, ap (λ (z : ℕ). z % c.args.base) (one-mul c.args.unit)),
  λ k p q. (p, q),
)

pub loop-b-preserved : goal.loop-b-preserved
loop-b-preserved c = (
  omega arith,
  c.loop-b.invariant.2,
  (
    c.loop-b.invariant.1.0 + (c.args.base - 1) * (c.loop-b.a / c.loop-b.b) * c.loop-b.invariant.2.0,
    euclid c.args.base c.args.unit c.loop-b.a c.loop-b.b c.loop-b.invariant.1.0 c.loop-b.invariant.2.0
        c.requires c.loop-b.invariant.1.1 c.loop-b.invariant.2.1,
  ),
  λ k p q. c.loop-b.invariant.3 k ((dvd-mod_iff k p).0 q) p,
)

pub returns : goal.returns
returns c =
    let z : c.loop-b.b ≡ 0 = omega arith in
    let both : (c.loop-b.a ∣ c.args.base) × (c.loop-b.a ∣ c.args.unit) =
    c.loop-b.invariant.3 c.loop-b.a (dvd_refl c.loop-b.a) (rw z (dvd-zero c.loop-b.a)) in
    record {
      some = c.loop-b.invariant.0;
      base = mod-eq-zero_of_dvd c.loop-b.a both.0;
      unit = mod-eq-zero_of_dvd c.loop-b.a both.1;
      times = c.loop-b.invariant.1.0;
      reaches = c.loop-b.invariant.1.1;
    }
