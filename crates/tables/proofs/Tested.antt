-- The tests of a table and the rules say the same.
use Rattle.std.proofs.Common.{◌≡◌, ℕ, zero, suc, ◌+◌, ◌-◌, ◌%◌, ◌<◌, ◌≤◌, Bool, true, false, cond, List, [], ◌∷◌, length, get_or, drop, is_some, Some, None, Option, sym, refl, ap, ◌∙◌, subst, inl, inr, mod-lt, arith}
use Rattle.std.proofs.lemmas.List.{at_drop_more}
use Rattle.std.proofs.lemmas.Bool.{cases_lt, cases_Bool, leb-true, le-leb, cond-true, cond-false, false≢true}
use Rattle.tables.specs.Rows.{Table}
use Rattle.tables.specs.Rules.{ReachedBySome, Rules}
use Rattle.tables.specs.Tables.{Within}
use Rattle.std.specs.List.{AllWithin, HoldsAt}
use Rattle.std.specs.Option.{MatchOption, option_map}
use Rattle.tables.specs.Steps.{back, steps, first_step, step_at}
use Rattle.tables.specs.Tests.{Leaves, AllClosed, AllStepped, at_most_sum}
use Rattle.tables.proofs.Certificate.{sound}
use Rattle.tables.proofs.Present.{same_entry, not_both}
use Rattle.tables.proofs.Firsts.{Summed, sum_adds, adds_sum}
use Rattle.tables.proofs.Back.{back_is, back_brings}

-- an entry that is present
pub present_some : (o : Option ℕ) (e : ℕ) → o ≡ Some e → is_some o ≡ true
present_some o e p = ap (λ (q : Option ℕ). is_some q) p

pub some_present : (o : Option ℕ) → is_some o ≡ true → (e : ℕ) × (o ≡ Some e)
some_present None t = absurd (false≢true t)
some_present (Some e) t = (e, refl)

-- what the test of one sum says
pub sum_within : (o above : Option ℕ) (e g : ℕ) → o ≡ Some e → at_most_sum o above g ≡ true → (least : ℕ) × ((above ≡ Some least) × (least ≤ e + g))
sum_within o above e g p t = go above (subst (λ (q : Option ℕ). at_most_sum q above g ≡ true) p t)
  where
    go : (above : Option ℕ) → at_most_sum (Some e) above g ≡ true → (least : ℕ) × ((above ≡ Some least) × (least ≤ e + g))
    go None t = absurd (false≢true t)
    go (Some least) t = (least, (refl, leb-true least (e + g) t))

pub within_sum : (o above : Option ℕ) (g : ℕ) → ((e : ℕ) → o ≡ Some e → (least : ℕ) × ((above ≡ Some least) × (least ≤ e + g))) → at_most_sum o above g ≡ true
within_sum None above g h = refl
within_sum (Some e) above g h =
    let w = h e refl in
    subst (λ (q : Option ℕ). at_most_sum (Some e) q g ≡ true) (sym w.1.0) (le-leb w.0 (e + g) w.1.1)

module _ (m : ℕ) (entry : ℕ → Option ℕ) (r : ℕ) where
  -- the first step is one of the units
  pub first_among : (position : ℕ) (units : List ℕ) → is_some (first_step m entry r position units) ≡ true → (j : ℕ) × ((j < length units) × (steps m entry r (get_or units j 0) ≡ true))
  first_among position [] t = absurd (false≢true t)
  first_among position (g ∷ units) t =
      elim (cases_Bool (steps m entry r g)) [
        | inl y ↦ (0, (omega arith, y))
        | inr n ↦
            let rest = first_among (position + 1) units (subst (λ (q : Option ℕ). is_some q ≡ true) (cond-false (steps m entry r g) (Some position) (first_step m entry r (position + 1) units) n) t) in
            (suc rest.0, (omega (arith, rest.1.0), rest.1.1))
      ]

  -- where some unit steps, there is a first
  pub among_first : (position : ℕ) (units : List ℕ) (j : ℕ) → j < length units → steps m entry r (get_or units j 0) ≡ true → is_some (first_step m entry r position units) ≡ true
  among_first position [] j h s = absurd (omega arith)
  among_first position (g ∷ units) zero h s =
      subst (λ (q : Option ℕ). is_some q ≡ true) (sym (cond-true (steps m entry r g) (Some position) (first_step m entry r (position + 1) units) s)) refl
  among_first position (g ∷ units) (suc j) h s =
      go (steps m entry r g) (among_first (position + 1) units j (omega arith) s)
    where
      go : (b : Bool) → is_some (first_step m entry r (position + 1) units) ≡ true → is_some (cond b (Some position) (first_step m entry r (position + 1) units)) ≡ true
      go true t = refl
      go false t = t

  -- a search for the first step, one unit on
  module _ (position : ℕ) (units : List ℕ) (i : ℕ) (h : i < length units) where
    pub first_on : steps m entry r (get_or units i 0) ≡ false → first_step m entry r position (drop i units) ≡ first_step m entry r (position + 1) (drop (i + 1) units)
    first_on s =
        at_drop_more (first_step m entry r position) units i 0 h
        ∙ cond-false (steps m entry r (get_or units i 0)) (Some position) (first_step m entry r (position + 1) (drop (i + 1) units)) s

-- the step, where the first of the other units that steps up is told by its position in the row
module _ (m : ℕ) (entry : ℕ → Option ℕ) (r : ℕ) where
  none_steps : (position : ℕ) (units : List ℕ) → ((k : ℕ) → k < length units → steps m entry r (get_or units k 0) ≡ false) → first_step m entry r position units ≡ None
  none_steps position [] none = refl
  none_steps position (g ∷ units) none =
      cond-false (steps m entry r g) (Some position) (first_step m entry r (position + 1) units) (none 0 (omega arith))
      ∙ none_steps (position + 1) units (λ k h. none (suc k) (omega arith))

  some_steps : (position : ℕ) (units : List ℕ) (i : ℕ) → i < length units → steps m entry r (get_or units i 0) ≡ true → ((k : ℕ) → k < i → steps m entry r (get_or units k 0) ≡ false) → first_step m entry r position units ≡ Some (position + i)
  some_steps position [] i inside here before = absurd (omega arith)
  some_steps position (g ∷ units) zero inside here before =
      cond-true (steps m entry r g) (Some position) (first_step m entry r (position + 1) units) here ∙ ap Some (let e : position ≡ position + 0 = omega arith in e)
  some_steps position (g ∷ units) (suc i) inside here before =
      cond-false (steps m entry r g) (Some position) (first_step m entry r (position + 1) units) (before 0 (omega arith))
      ∙ some_steps (position + 1) units i (omega arith) here (λ k h. before (suc k) (omega arith))
      ∙ ap Some (let e : position + 1 + i ≡ position + suc i = omega arith in e)

  pub step_by_position : (units : List ℕ) (o : Option ℕ)
      → MatchOption o
      ((k : ℕ) → k < length units → steps m entry r (get_or units k 0) ≡ false)
      (λ position. (1 ≤ position) × ((position ≤ length units) × ((steps m entry r (get_or units (position - 1) 0) ≡ true) × ((k : ℕ) → k < position - 1 → steps m entry r (get_or units k 0) ≡ false))))
      → o ≡ step_at (m ∷ units) entry r
  step_by_position units None none = sym (none_steps 1 units none)
  step_by_position units (Some position) first =
      ap Some (let e : position ≡ 1 + (position - 1) = omega arith in e)
      ∙ sym (some_steps 1 units (position - 1) (omega arith) first.1.1.0 first.1.1.1)

  -- the same by its place among the others
  pub step_by_place : (units : List ℕ) (o : Option ℕ)
      → MatchOption o
      (AllWithin (λ g. steps m entry r g ≡ false) units 0 (length units))
      (λ i. (i < length units) × HoldsAt (λ g. steps m entry r g ≡ true) units i × AllWithin (λ g. steps m entry r g ≡ false) units 0 i)
      → option_map (λ i. i + 1) o ≡ step_at (m ∷ units) entry r
  step_by_place units None none = sym (none_steps 1 units (λ k h. none k 0 (omega arith) h))
  step_by_place units (Some i) first =
      ap Some (let e : i + 1 ≡ 1 + i = omega arith in e) ∙ sym (some_steps 1 units i first.0 (first.1 0) (λ k h. first.2 k 0 (omega arith) h))

-- the rules from the tests
module _ (m : ℕ) (others : List ℕ) (entry : ℕ → Option ℕ) (some : 1 ≤ m) where
  module _ (start : entry 0 ≡ Some 0) (leaves : Leaves m entry) (closed : AllClosed m others entry) (stepped : AllStepped m others entry) where
    pub rules_from : Rules m others entry
    rules_from r low =
        record {
          start = λ z. ap entry z ∙ start;
          leaves = leaves r;
          closed = λ e p j h.
              let w = sum_within (entry r) (entry ((r + get_or others j 0) % m)) e (get_or others j 0) p (closed r j h) in
              record { least = w.0; present = w.1.0; within = w.1.1 };
          reached = λ e p apart.
              let above : 0 < r = elim (cases_lt 0 r) [ inl h ↦ h | inr h ↦ absurd (apart (omega arith)) ] in
              let u = first_among m entry r 1 others (stepped r above (present_some (entry r) e p)) in
              let g : ℕ = get_or others u.0 0 in
              let w : Summed (entry r) (entry (back m g r)) g = sum_adds (entry r) (entry (back m g r)) g u.1.1 in
              record {
                unit = u.0;
                among = u.1.0;
                reached = record {
                  from = back m g r;
                  least = w.least;
                  below = mod-lt (r + (m - g % m)) some;
                  leads = back_brings m g r some low;
                  present = w.under;
                  adds = same_entry (entry r) (w.least + g) e w.over p;
                };
              };
        }

    -- so that the tests give the true table
    pub table_from : ((j : ℕ) → j < length others → 1 ≤ get_or others j 0) → ((r : ℕ) → m ≤ r → entry r ≡ None) → Table (m ∷ others) entry
    table_from sizes past = sound m others entry some sizes past rules_from

  -- the tests from the rules
  module _ (past : (r : ℕ) → m ≤ r → entry r ≡ None) (rules : Rules m others entry) where
    low : (r e : ℕ) → entry r ≡ Some e → r < m
    low r e p = elim (cases_lt r m) [ inl h ↦ h | inr h ↦ absurd (not_both (entry r) e p (past r h)) ]

    pub start_from : entry 0 ≡ Some 0
    start_from = (rules 0 some).start refl

    pub leaves_from : Leaves m entry
    leaves_from r e p = (rules r (low r e p)).leaves e p

    pub closed_from : AllClosed m others entry
    closed_from r j h =
        within_sum (entry r) (entry ((r + get_or others j 0) % m)) (get_or others j 0)
        (λ e p. let w : Within entry ((r + get_or others j 0) % m) (e + get_or others j 0) = (rules r (low r e p)).closed e p j h in (w.least, (w.present, w.within)))

    pub stepped_from : AllStepped m others entry
    stepped_from r above t =
        let q = some_present (entry r) t in
        let s : ReachedBySome m others entry r q.0 = (rules r (low r q.0 q.1)).reached q.0 q.1 (λ z. omega arith) in
        let g : ℕ = get_or others s.unit 0 in
        let at : s.reached.from ≡ back m g r = back_is m g r s.reached.from some s.reached.below s.reached.leads in
        among_first m entry r 1 others s.unit s.among
        (adds_sum (entry r) (entry (back m g r)) g (record { least = s.reached.least; under = ap entry (sym at) ∙ s.reached.present; over = q.1 ∙ ap Some (sym s.reached.adds) }))
