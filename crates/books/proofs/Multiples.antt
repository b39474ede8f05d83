-- When a size is a multiple of another.
use Rattle.std.proofs.Common.{◌≡◌, ℕ, zero, suc, ◌/◌, ◌%◌, ◌<◌, Bool, List, ◌∷◌, length, get_or, Decides, sym, ap, ◌∙◌, mul_comm, arith}
use native.Mathlib.Nat.{div-add-mod, mul-mod_left}
use Rattle.books.specs.Units.{Multiple, Spare}

pub multiple_from : (unit size : ℕ) → (unit ≡ size → ⊥) → size % unit ≡ 0 → Multiple unit size
multiple_from unit size other h =
    record {
      other = other;
      times = size / unit;
      adds = omega (arith, div-add-mod size unit, mul_comm unit (size / unit), h);
    }

pub multiple_leaves : (unit size : ℕ) → Multiple unit size → size % unit ≡ 0
multiple_leaves unit size m = ap (λ (z : ℕ). z % unit) (sym m.adds) ∙ mul-mod_left m.times unit

-- a row whose base is no divisor spares what its other units spare
pub spare_after : (base size : ℕ) (others : List ℕ) (r : Bool) → (Multiple base size → ⊥) → Decides r (Spare others size) → Decides r (Spare (base ∷ others) size)
spare_after base size others r apart d = (
  (λ t.
      let s : Spare others size = d.0 t in
      record { position = suc s.position; among = omega (arith, s.among); multiple = s.multiple }),
  λ s. d.1 (go s.position s.among s.multiple),
)
  where
    go : (k : ℕ) → k < length (base ∷ others) → Multiple (get_or (base ∷ others) k 0) size → Spare others size
    go zero h m = absurd (apart m)
    go (suc k) h m = record { position = k; among = omega arith; multiple = m }
