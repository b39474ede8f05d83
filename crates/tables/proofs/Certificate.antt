-- The rules hold everywhere of the true table, and of no other.
use Rattle.std.proofs.Common.{◌≡◌, ℕ, zero, suc, ◌+◌, ◌%◌, ◌<◌, ◌≤◌, List, ◌∷◌, length, get_or, Some, None, Option, sym, refl, ap, ◌∙◌, subst, inl, inr, mod-lt, arith}
use native.Mathlib.Nat.{zero-mod, mod-add-mod, add-mod_right}
use Rattle.std.proofs.lemmas.Bool.{cases_lt}
use Rattle.tables.specs.Rows.{total, Makes, Least, Table}
use Rattle.tables.specs.Rules.{ReachedBySome, Rules, Certificate}
use Rattle.tables.specs.Tables.{Within}
use Rattle.tables.proofs.Present.{entry_cases, same_entry, not_both}
use Rattle.tables.proofs.Leasts.{Lighter, least_entry, lighter}
use Rattle.tables.proofs.Makeable.{kept, makes_none, makes_more}

pub within_at : (entry : ℕ → Option ℕ) (r s n k : ℕ) → r ≡ s → n ≤ k → Within entry r n → Within entry s k
within_at entry r s n k e h w =
    record { least = w.least; present = ap entry (sym e) ∙ w.present; within = omega (arith, w.within) }

module _ (m : ℕ) (others : List ℕ) (entry : ℕ → Option ℕ) (some : 1 ≤ m) (rules : Rules m others entry) where
  -- every makeable load lies at or above the entry of its remainder
  stays : (j n : ℕ) → j < length (m ∷ others) → Within entry (n % m) n → Within entry ((n + get_or (m ∷ others) j 0) % m) (n + get_or (m ∷ others) j 0)
  stays zero n h w = within_at entry (n % m) ((n + m) % m) n (n + m) (sym (add-mod_right n m)) (omega arith) w
  stays (suc j) n h w =
      let g : ℕ = get_or others j 0 in
      within_at entry ((n % m + g) % m) ((n + g) % m) (w.least + g) (n + g) (mod-add-mod n m g) (omega (arith, w.within))
      ((rules (n % m) (mod-lt n some)).closed w.least w.present j (omega arith))

  covers : (n : ℕ) → Makes (m ∷ others) n → Within entry (n % m) n
  covers n made =
      let P : ℕ → Type 0 = λ k. Within entry (k % m) k in
      let none : P 0 = within_at entry 0 (0 % m) 0 0 (sym (zero-mod m)) (omega arith) (record { least = 0; present = (rules 0 some).start refl; within = omega arith }) in
      let e : 0 + total (m ∷ others) made.counts ≡ n = omega (arith, made.adds) in
      subst P e (kept (m ∷ others) P stays made.counts 0 none)

  -- every entry is makeable, by steps down to 0
  module _ (sizes : (j : ℕ) → j < length others → 1 ≤ get_or others j 0) where
    reaches : (fuel r e : ℕ) → e < fuel → r < m → entry r ≡ Some e → Makes (m ∷ others) e
    reaches zero r e h l p = absurd (omega arith)
    reaches (suc fuel) zero e h l p =
        let z : 0 ≡ e = same_entry (entry 0) 0 e ((rules 0 l).start refl) p in
        subst (Makes (m ∷ others)) z (makes_none (m ∷ others))
    reaches (suc fuel) (suc r) e h l p =
        let s : ReachedBySome m others entry (suc r) e = (rules (suc r) l).reached e p (λ z. omega arith) in
        let g : ℕ = get_or others s.unit 0 in
        let pos : 1 ≤ g = sizes s.unit s.among in
        let low : s.reached.least + g ≡ e = s.reached.adds in
        let made : Makes (m ∷ others) s.reached.least = reaches fuel s.reached.from s.reached.least (omega arith) s.reached.below s.reached.present in
        subst (Makes (m ∷ others)) low (makes_more (m ∷ others) (suc s.unit) s.reached.least (omega (arith, s.among)) made)

pub sound : (m : ℕ) (others : List ℕ) (entry : ℕ → Option ℕ) → 1 ≤ m → ((j : ℕ) → j < length others → 1 ≤ get_or others j 0) → ((r : ℕ) → m ≤ r → entry r ≡ None)
    → Rules m others entry → Table (m ∷ others) entry
sound m others entry some sizes past rules =
    record {
      present = λ r e p.
          let low : r < m = elim (cases_lt r m) [ inl h ↦ h | inr h ↦ absurd (not_both (entry r) e p (past r h)) ] in
          record {
            makes = reaches m others entry some rules sizes (suc e) r e (omega arith) low p;
            leaves = (rules r low).leaves e p;
            least = λ n made q.
                let w : Within entry (n % m) n = covers m others entry some rules n made in
                let z : e ≡ w.least = same_entry (entry r) e w.least p (ap entry (sym q) ∙ w.present) in
                omega (arith, w.within);
          };
      absent = λ r n low p made q.
          let w : Within entry (n % m) n = covers m others entry some rules n made in
          not_both (entry r) w.least (ap entry (sym q) ∙ w.present) p;
    }

module _ (m : ℕ) (others : List ℕ) (entry : ℕ → Option ℕ) (some : 1 ≤ m) (table : Table (m ∷ others) entry) where
  -- the entry of a makeable load's remainder is present and at most the load
  holds : (n : ℕ) → Makes (m ∷ others) n → Within entry (n % m) n
  holds n made =
      elim (entry_cases (entry (n % m))) [
        | inl p ↦ absurd (table.absent (n % m) n (mod-lt n some) p made refl)
        | inr q ↦ record { least = q.0; present = q.1; within = (table.present (n % m) q.0 q.1).least n made refl }
      ]

  -- a least load of a remainder other than 0 loses a unit that is not the base, and stays a least load
  down : (r e : ℕ) → (r ≡ 0 → ⊥) → Least (m ∷ others) r e → ReachedBySome m others entry r e
  down r e nonzero l = by (lighter (m ∷ others) some r e nonzero l)
    where
      by : Lighter (m ∷ others) e → ReachedBySome m others entry r e
      by u = at u.unit u.other u.inside u.adds
        where
          at : (unit : ℕ) → 1 ≤ unit → unit < length (m ∷ others) → u.rest + get_or (m ∷ others) unit 0 ≡ e → ReachedBySome m others entry r e
          at zero other inside adds = absurd (omega arith)
          at (suc unit) other inside adds =
              record {
                unit = unit;
                among = omega arith;
                reached = record {
                  from = u.rest % m;
                  least = u.rest;
                  below = mod-lt u.rest some;
                  leads = mod-add-mod u.rest m (get_or others unit 0) ∙ ap (λ k. k % m) adds ∙ l.leaves;
                  present = least_entry (m ∷ others) entry table (u.rest % m) u.rest (mod-lt u.rest some) u.is_least;
                  adds = adds;
                };
              }

pub complete : (m : ℕ) (others : List ℕ) (entry : ℕ → Option ℕ) → 1 ≤ m → Table (m ∷ others) entry → Rules m others entry
complete m others entry some table r low =
    record {
      start = λ z.
          let w : Within entry (0 % m) 0 = holds m others entry some table 0 (makes_none (m ∷ others)) in
          let none : w.least ≡ 0 = omega (arith, w.within) in
          ap entry (z ∙ sym (zero-mod m)) ∙ w.present ∙ ap Some none;
      leaves = λ e p. (table.present r e p).leaves;
      closed = λ e p j h.
          let g : ℕ = get_or others j 0 in
          let l : Least (m ∷ others) r e = table.present r e p in
          let same : (e + g) % m ≡ (r + g) % m = sym (mod-add-mod e m g) ∙ ap (λ k. (k + g) % m) l.leaves in
          within_at entry ((e + g) % m) ((r + g) % m) (e + g) (e + g) same (omega arith)
          (holds m others entry some table (e + g) (makes_more (m ∷ others) (suc j) e (omega arith) l.makes));
      reached = λ e p nonzero. down m others entry some table r e nonzero (table.present r e p);
    }

pub certificate : Certificate
certificate m others entry some sizes past = (sound m others entry some sizes past, complete m others entry some)
