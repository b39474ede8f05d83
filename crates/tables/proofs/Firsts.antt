-- The step that is told of a remainder is the first unit that leads there among the entries; a true table lacks one only at 0 and where the entry is absent.
use Rattle.std.proofs.Common.{◌≡◌, ℕ, zero, suc, ◌+◌, ◌-◌, ◌%◌, ◌<◌, ◌≤◌, true, false, ◌⊎◌, List, [], ◌∷◌, length, get_or, drop, Some, None, Option, sym, refl, ap, ◌∙◌, inl, inr, mod-lt, arith}
use native.Mathlib.Nat.{mod-add-mod, zero-mod}
use Rattle.std.proofs.lemmas.List.{get_or-drop, length-drop}
use Rattle.std.proofs.lemmas.Bool.{cases_Bool, cond-true, cond-false, both_ways, false≢true, eqb-true, eq-eqb}
use Rattle.tables.specs.Rows.{Row, Least, Table, base_of}
use Rattle.tables.specs.Steps.{back, is_sum, steps, first_step, step_at, Leads, FirstLeads}
use Rattle.tables.proofs.Back.{back_is, back_brings}
use Rattle.tables.proofs.Present.{entry_cases, same_entry, not_both}
use Rattle.tables.proofs.Leasts.{base_some, least_entry, lighter, Lighter}
use Rattle.tables.proofs.Makeable.{makes_none}

-- the step among the entries of a table
abbrev pub EntryStep : List ℕ → (ℕ → Option ℕ) → ℕ → ℕ → Type 0
EntryStep row entry r i = FirstLeads row (λ s e. entry s ≡ Some e) r i

-- what the test of one step says
pub record Summed (above below : Option ℕ) (g : ℕ) : Type 0 where
  pub least : ℕ
  pub under : below ≡ Some least
  pub over : above ≡ Some (least + g)

pub sum_adds : (above below : Option ℕ) (g : ℕ) → is_sum above below g ≡ true → Summed above below g
sum_adds None below g t = absurd (false≢true t)
sum_adds (Some e) None g t = absurd (false≢true t)
sum_adds (Some e) (Some least) g t = record { least = least; under = refl; over = ap Some (sym (eqb-true (least + g) e t)) }

pub adds_sum : (above below : Option ℕ) (g : ℕ) → Summed above below g → is_sum above below g ≡ true
adds_sum above below g s =
    ap (λ (o : Option ℕ). is_sum o below g) s.over ∙ ap (λ (o : Option ℕ). is_sum (Some (s.least + g)) o g) s.under ∙ eq-eqb (s.least + g) (s.least + g) refl

-- i is the position of the first of the units that steps to r, where the first of them stands at this position
record First (m : ℕ) (entry : ℕ → Option ℕ) (r position : ℕ) (units : List ℕ) (i : ℕ) : Type 0 where
  at : ℕ
  place : position + at ≡ i
  among : at < length units
  here : steps m entry r (get_or units at 0) ≡ true
  before : (k : ℕ) → k < at → steps m entry r (get_or units k 0) ≡ false

module _ (m : ℕ) (entry : ℕ → Option ℕ) (r : ℕ) where
  onward : (g : ℕ) (units : List ℕ) (n : ℕ) → steps m entry r g ≡ false → ((k : ℕ) → k < n → steps m entry r (get_or units k 0) ≡ false) → (k : ℕ) → k < suc n → steps m entry r (get_or (g ∷ units) k 0) ≡ false
  onward g units n here rest zero h = here
  onward g units n here rest (suc k) h = rest k (omega arith)

  first_none : (position : ℕ) (units : List ℕ) → first_step m entry r position units ≡ None → (k : ℕ) → k < length units → steps m entry r (get_or units k 0) ≡ false
  first_none position [] p = λ k h. absurd (omega arith)
  first_none position (g ∷ units) p =
      elim (cases_Bool (steps m entry r g)) [
        | inl y ↦ absurd (not_both (first_step m entry r position (g ∷ units)) position (cond-true (steps m entry r g) (Some position) (first_step m entry r (position + 1) units) y) p)
        | inr n ↦ onward g units (length units) n (first_none (position + 1) units (sym (cond-false (steps m entry r g) (Some position) (first_step m entry r (position + 1) units) n) ∙ p))
      ]

  first_some : (position : ℕ) (units : List ℕ) (i : ℕ) → first_step m entry r position units ≡ Some i → First m entry r position units i
  first_some position [] i p = absurd (not_both None i p refl)
  first_some position (g ∷ units) i p =
      elim (cases_Bool (steps m entry r g)) [
        | inl y ↦ (let e : position ≡ i = same_entry (first_step m entry r position (g ∷ units)) position i (cond-true (steps m entry r g) (Some position) (first_step m entry r (position + 1) units) y) p in
            record { at = 0; place = omega arith; among = omega arith; here = y; before = λ k h. absurd (omega arith) })
        | inr n ↦ (let f : First m entry r (position + 1) units i = first_some (position + 1) units i (sym (cond-false (steps m entry r g) (Some position) (first_step m entry r (position + 1) units) n) ∙ p) in
            record { at = suc f.at; place = omega (arith, f.place); among = omega (arith, f.among); here = f.here; before = onward g units f.at n f.before })
      ]

module _ (row : List ℕ) (entry : ℕ → Option ℕ) (ordered : Row row) (table : Table row entry) where
  some : 1 ≤ base_of row
  some = base_some row ordered

  below : (r e : ℕ) → entry r ≡ Some e → r < base_of row
  below r e p = omega (arith, (table.present r e p).leaves, mod-lt e some)

  pub entry_zero : entry 0 ≡ Some 0
  entry_zero =
      least_entry row entry table 0 0 some (record { makes = makes_none row; leaves = zero-mod (base_of row); least = λ n makes same. omega arith })

  -- the test of a unit, and that it leads among the entries
  steps_leads : (r i : ℕ) → steps (base_of row) entry r (get_or row i 0) ≡ true → Leads row (λ s e. entry s ≡ Some e) r i
  steps_leads r i t =
      let g : ℕ = get_or row i 0 in
      let s : Summed (entry r) (entry (back (base_of row) g r)) g = sum_adds (entry r) (entry (back (base_of row) g r)) g t in
      record {
        from = back (base_of row) g r;
        load = s.least;
        below = mod-lt (r + (base_of row - g % base_of row)) some;
        brings = back_brings (base_of row) g r some (below r (s.least + g) s.over);
        before = s.under;
        after = s.over;
      }

  leads_steps : (r i : ℕ) → Leads row (λ s e. entry s ≡ Some e) r i → steps (base_of row) entry r (get_or row i 0) ≡ true
  leads_steps r i l =
      let g : ℕ = get_or row i 0 in
      let at : l.from ≡ back (base_of row) g r = back_is (base_of row) g r l.from some l.below l.brings in
      adds_sum (entry r) (entry (back (base_of row) g r)) g (record { least = l.load; under = ap entry (sym at) ∙ l.before; over = l.after })

  -- the units other than the base, by their positions in the row
  others : (k i : ℕ) → 1 + k ≡ i → get_or (drop 1 row) k 0 ≡ get_or row i 0
  others k i e = get_or-drop 1 row k 0 ∙ ap (λ j. get_or row j 0) e

  unled : (j : ℕ) → 1 ≤ j → (r : ℕ) → steps (base_of row) entry r (get_or (drop 1 row) (j - 1) 0) ≡ false → Leads row (λ s e. entry s ≡ Some e) r j → ⊥
  unled j other r f l =
      both_ways (steps (base_of row) entry r (get_or row j 0)) (ap (steps (base_of row) entry r) (sym (others (j - 1) j (omega arith))) ∙ f) (leads_steps r j l)

  -- no unit leads to 0, whose entry is 0
  nonzero : (r i : ℕ) → i < length row → Leads row (λ s e. entry s ≡ Some e) r i → r ≡ 0 → ⊥
  nonzero r i inside l z =
      omega (arith, same_entry (entry r) (l.load + get_or row i 0) 0 l.after (ap entry z ∙ entry_zero), (ordered.sizes i inside).0)

  pub step_some : (r i : ℕ) → step_at row entry r ≡ Some i → EntryStep row entry r i
  step_some r i p =
      let f : First (base_of row) entry r 1 (drop 1 row) i = first_some (base_of row) entry r 1 (drop 1 row) i p in
      let inside : i < length row = omega (arith, f.place, f.among, length-drop 1 row) in
      let l : Leads row (λ s e. entry s ≡ Some e) r i = steps_leads r i (ap (steps (base_of row) entry r) (sym (others f.at i f.place)) ∙ f.here) in
      record {
        nonzero = nonzero r i inside l;
        other = omega (arith, f.place);
        inside = inside;
        leads = l;
        first = λ j other h. unled j other r (f.before (j - 1) (omega (arith, f.place)));
      }

  -- an entry other than that of 0 is led to, by a unit that its least load loses
  pub step_none : (r : ℕ) → step_at row entry r ≡ None → (r ≡ 0) ⊎ (entry r ≡ None)
  step_none zero p = inl refl
  step_none (suc r) p =
      elim (entry_cases (entry (suc r))) [
        | inl none ↦ inr none
        | inr q ↦ absurd (missed q.0 q.1)
      ]
    where
      missed : (e : ℕ) → entry (suc r) ≡ Some e → ⊥
      missed e q =
          let l : Least row (suc r) e = table.present (suc r) e q in
          let u : Lighter row e = lighter row some (suc r) e (λ z. omega arith) l in
          let g : ℕ = get_or row u.unit 0 in
          unled u.unit u.other (suc r) (first_none (base_of row) entry (suc r) 1 (drop 1 row) p (u.unit - 1) (omega (arith, u.other, u.inside, length-drop 1 row)))
          (record {
            from = u.rest % base_of row;
            load = u.rest;
            below = mod-lt u.rest some;
            brings = mod-add-mod u.rest (base_of row) g ∙ ap (λ k. k % base_of row) u.adds ∙ l.leaves;
            before = least_entry row entry table (u.rest % base_of row) u.rest (mod-lt u.rest some) u.is_least;
            after = q ∙ ap Some (sym u.adds);
          })
