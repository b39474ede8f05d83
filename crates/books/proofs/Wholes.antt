-- What one more unit in the whole table says of each entry: how far it reaches, and how it is reached.
use Rattle.std.proofs.Common.{◌≡◌, ℕ, zero, suc, ◌+◌, ◌*◌, ◌%◌, ◌≤◌, ◌⊎◌, Some, Option, sym, ap, ◌∙◌, inl, inr, mod-lt, suc-mul, zero-mul, arith}
use native.Mathlib.Nat.{mod-mod, mod-add-mod}
use Rattle.tables.specs.Rules.{Reached}
use Rattle.tables.specs.Tables.{Within}
use Rattle.tables.proofs.Present.{same_entry}
use Rattle.books.specs.Rings.{Grown, Extended}
use Rattle.tables.specs.Tests.{Leaves}

module _ (m g : ℕ) (old nu : ℕ → Option ℕ) (w : Extended m g old nu) where
  -- an old entry and any number of units more are at least the entry where they lead
  pub extended_reaches : (t e k : ℕ) → old t ≡ Some e → Within nu ((t + k * g) % m) (e + k * g)
  extended_reaches t e zero p =
      let a : Within nu t e = w.lower t e p in
      let home : (t + 0 * g) % m ≡ t =
      ap (λ (z : ℕ). z % m) (let q : t + 0 * g ≡ t = omega (arith, zero-mul g) in q)
      ∙ ap (λ (z : ℕ). z % m) (sym (w.leaves t a.least a.present)) ∙ mod-mod a.least m ∙ w.leaves t a.least a.present in
      record { least = a.least; present = ap nu home ∙ a.present; within = omega (arith, a.within, zero-mul g) }
  extended_reaches t e (suc k) p =
      let a : Within nu ((t + k * g) % m) (e + k * g) = extended_reaches t e k p in
      let b : Within nu (((t + k * g) % m + g) % m) (a.least + g) = w.closed ((t + k * g) % m) a.least a.present in
      let on : ((t + k * g) % m + g) % m ≡ (t + suc k * g) % m =
      mod-add-mod (t + k * g) m g
      ∙ ap (λ (z : ℕ). z % m) (let q : t + k * g + g ≡ t + suc k * g = omega (arith, suc-mul k g) in q) in
      record {
        least = b.least;
        present = ap nu (sym on) ∙ b.present;
        within = omega (arith, a.within, b.within, suc-mul k g);
      }

  -- an entry is as it was, or reached from another by the unit
  pub extended_reached : 1 ≤ m → Leaves m old → (r e : ℕ) → nu r ≡ Some e → (old r ≡ Some e) ⊎ Reached m nu r e g
  extended_reached some leaves r e p =
      let u : Grown m g old e = w.grown r e p in
      go u.from u.least u.times u.present u.adds
    where
      go : (t x k : ℕ) → old t ≡ Some x → x + k * g ≡ e → (old r ≡ Some e) ⊎ Reached m nu r e g
      go t x zero q a =
          let same : x ≡ e = omega (arith, a, zero-mul g) in
          let place : r ≡ t = sym (w.leaves r e p) ∙ ap (λ (z : ℕ). z % m) (sym same) ∙ leaves t x q in
          inl (ap old place ∙ q ∙ ap Some same)
      go t x (suc k) q a =
          let h : Within nu ((t + k * g) % m) (x + k * g) = extended_reaches t x k q in
          let b : Within nu (((t + k * g) % m + g) % m) (h.least + g) = w.closed ((t + k * g) % m) h.least h.present in
          let on : ((t + k * g) % m + g) % m ≡ r =
          mod-add-mod (t + k * g) m g
          ∙ ap (λ (z : ℕ). z % m) (let i : t + k * g + g ≡ t + suc k * g = omega (arith, suc-mul k g) in i)
          ∙ ap (λ (z : ℕ). (z + suc k * g) % m) (sym (leaves t x q)) ∙ mod-add-mod x m (suc k * g)
          ∙ ap (λ (z : ℕ). z % m) a ∙ w.leaves r e p in
          let same : b.least ≡ e = same_entry (nu r) b.least e (ap nu (sym on) ∙ b.present) p in
          inr
          (record {
            from = (t + k * g) % m;
            least = h.least;
            below = mod-lt (t + k * g) some;
            leads = on;
            present = h.present;
            adds = omega (arith, h.within, b.within, same, a, suc-mul k g);
          })
