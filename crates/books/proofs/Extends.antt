-- The rules of a table carry over from a row to the row with one more unit.
use Rattle.std.proofs.Common.{◌≡◌, ℕ, ◌+◌, ◌*◌, ◌%◌, ◌<◌, ◌≤◌, ◌⊎◌, List, length, get_or, Some, Option, sym, refl, ap, ◌∙◌, subst, inl, inr, mod-lt, arith}
use native.Mathlib.Nat.{mod-add-mod}
use Rattle.std.specs.List.{insert}
use Rattle.tables.specs.Rules.{Reached, ReachedBySome, Rules}
use Rattle.tables.specs.Tables.{Within}
use Rattle.tables.proofs.Present.{same_entry}
use Rattle.books.specs.Rings.{Grown, Extended}
use Rattle.tables.specs.Tests.{Leaves}
use Rattle.books.proofs.Inserted.{in_which, in_new, in_old}
use Rattle.books.proofs.Wholes.{extended_reaches, extended_reached}

-- The units are the others and g, in any order.
pub record Joined (g : ℕ) (others units : List ℕ) : Type 0 where
  pub which : (j : ℕ) → j < length units → (get_or units j 0 ≡ g) ⊎ ((i : ℕ) × ((i < length others) × (get_or units j 0 ≡ get_or others i 0)))
  pub new : (j : ℕ) × ((j < length units) × (get_or units j 0 ≡ g))
  pub old : (i : ℕ) → i < length others → (j : ℕ) × ((j < length units) × (get_or units j 0 ≡ get_or others i 0))

-- so they are where g is put in among the others
pub inserted_joined : (xs : List ℕ) (at g : ℕ) → at ≤ length xs → Joined g xs (insert xs at g)
inserted_joined xs at g le = record { which = in_which xs at g le; new = in_new xs at g le; old = in_old xs at g le }

module _ (m g : ℕ) (others units : List ℕ) (old nu : ℕ → Option ℕ) (some : 1 ≤ m)
    (ext : Extended m g old nu) (leaves : Leaves m old) (rules : Rules m others old) (joined : Joined g others units) where
  -- a unit of before leads from a new entry to one that is present and at most the sum
  leads_on : (r e i : ℕ) → nu r ≡ Some e → i < length others → Within nu ((r + get_or others i 0) % m) (e + get_or others i 0)
  leads_on r e i p h =
      let x : ℕ = get_or others i 0 in
      let u : Grown m g old e = ext.grown r e p in
      let more : ℕ = u.times * g in
      let low : u.from < m = omega (arith, leaves u.from u.least u.present, mod-lt u.least some) in
      let w : Within old ((u.from + x) % m) (u.least + x) = (rules u.from low).closed u.least u.present i h in
      let a : Within nu (((u.from + x) % m + more) % m) (w.least + more) =
      extended_reaches m g old nu ext ((u.from + x) % m) w.least u.times w.present in
      let place : ((u.from + x) % m + more) % m ≡ (r + x) % m =
      mod-add-mod (u.from + x) m more
      ∙ ap (λ (z : ℕ). z % m) (let q : u.from + x + more ≡ u.from + (x + more) = omega arith in q)
      ∙ ap (λ (z : ℕ). (z + (x + more)) % m) (sym (leaves u.from u.least u.present))
      ∙ mod-add-mod u.least m (x + more)
      ∙ ap (λ (z : ℕ). z % m) (let q : u.least + (x + more) ≡ e + x = omega (arith, u.adds) in q)
      ∙ sym (mod-add-mod e m x)
      ∙ ap (λ (z : ℕ). (z + x) % m) (ext.leaves r e p) in
      record {
        least = a.least;
        present = ap nu (sym place) ∙ a.present;
        within = omega (arith, a.within, w.within, u.adds);
      }

  -- an entry that is as it was is still reached as it was
  reached_on : (r e : ℕ) → nu r ≡ Some e → ReachedBySome m others old r e → ReachedBySome m units nu r e
  reached_on r e p s =
      let x : ℕ = get_or others s.unit 0 in
      let b : Reached m old r e (get_or others s.unit 0) = s.reached in
      let a : Within nu b.from b.least = ext.lower b.from b.least b.present in
      let w : Within nu ((b.from + x) % m) (a.least + x) = leads_on b.from a.least s.unit a.present s.among in
      let same : w.least ≡ e = same_entry (nu r) w.least e (ap nu (sym b.leads) ∙ w.present) p in
      let kept : a.least ≡ b.least = omega (arith, a.within, w.within, same, b.adds) in
      let t = joined.old s.unit s.among in
      record {
        unit = t.0;
        among = t.1.0;
        reached =
            subst (λ (z : ℕ). Reached m nu r e z) (sym t.1.1)
            (record {
              from = b.from;
              least = b.least;
              below = b.below;
              leads = b.leads;
              present = a.present ∙ ap Some kept;
              adds = b.adds;
            });
      }

  pub extended_rules : Rules m units nu
  extended_rules r low =
      record {
        start = λ z.
            let a : Within nu 0 0 = ext.lower 0 0 ((rules 0 some).start refl) in
            let none : a.least ≡ 0 = omega (arith, a.within) in
            ap nu z ∙ a.present ∙ ap Some none;
        leaves = λ e p. ext.leaves r e p;
        closed = λ e p j h. elim (joined.which j h) [
          | inl q ↦ subst (λ (z : ℕ). Within nu ((r + z) % m) (e + z)) (sym q) (ext.closed r e p)
          | inr i ↦ subst (λ (z : ℕ). Within nu ((r + z) % m) (e + z)) (sym i.1.1) (leads_on r e i.0 p i.1.0)
        ];
        reached = λ e p apart. elim (extended_reached m g old nu ext some leaves r e p) [
          | inl was ↦ reached_on r e p ((rules r low).reached e was apart)
          | inr new ↦
              let t = joined.new in
              record { unit = t.0; among = t.1.0; reached = subst (λ (z : ℕ). Reached m nu r e z) (sym t.1.1) new }
        ];
      }
