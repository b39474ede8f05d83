-- The rules at one remainder, as the checks of a file find them.
use Rattle.std.proofs.Common.{◌≡◌, ℕ, ◌+◌, ◌-◌, ◌%◌, ◌<◌, ◌≤◌, Bool, true, false, List, ◌∷◌, length, get_or, is_some, Some, None, Decides, MatchOption, MatchResult, Option, Result, Ok, Err, sym, refl, ap, ◌∙◌, subst, mod-lt, arith}
use Rattle.std.specs.Bool.{MatchBool}
use Rattle.std.specs.List.{AllWithin, HoldsAt, range_with_len}
use Rattle.std.proofs.lemmas.Bool.{false≢true}
use Rattle.std.proofs.lemmas.List.FromFn.{get_or-range_with_len, length-range_with_len}
use Rattle.files.specs.Checks.{FirstFalse}
use Rattle.tables.specs.Rules.{Closed, ReachedBySome, Rule, Rules}
use Rattle.tables.specs.Steps.{back, step_at}
use Rattle.tables.specs.Tables.{Within}
use Rattle.tables.proofs.Back.{back_brings, back_is}
use Rattle.tables.proofs.Present.{same_entry}
use Rattle.tables.proofs.Firsts.{Summed, adds_sum, sum_adds}
use Rattle.tables.proofs.Tested.{among_first, first_among}
use Rattle.files.specs.Layout.{file_base, file_entry, file_others, file_size, file_units}
use Rattle.files.proofs.Places.{others_at, others_length}

add_zero : (j : ℕ) → 0 + j ≡ j
add_zero j = omega arith

module _ (bytes : List ℕ) (r load : ℕ) where
  -- one unit by its place, and by its place among the others
  abbrev pub Led : ℕ → Type 0
  Led g = Within (file_entry bytes) ((r + g) % file_base bytes) (load + g)

  pub closed_all : ((j : ℕ) → j < file_units bytes - 1 → Led (file_size bytes j)) → Closed (file_base bytes) (file_others bytes) (file_entry bytes) r load
  closed_all each j h =
      let low : j < file_units bytes - 1 = omega (arith, others_length bytes) in
      subst Led (sym (others_at bytes j low)) (each j low)

  pub closed_one : (j : ℕ) → j < file_units bytes - 1 → Closed (file_base bytes) (file_others bytes) (file_entry bytes) r load → Led (file_size bytes j)
  closed_one j low closed = subst Led (others_at bytes j low) (closed j (omega (arith, others_length bytes)))

  -- what `all` finds at the places of the other units
  pub closed_by_all : (b : Bool) (n : ℕ) → n ≡ file_units bytes - 1
      → MatchBool b
      (AllWithin (λ j. Led (file_size bytes j)) (range_with_len 0 n) 0 (length (range_with_len 0 n)))
      ((k : ℕ) × (k < length (range_with_len 0 n)) × HoldsAt (λ j. Led (file_size bytes j) → ⊥) (range_with_len 0 n) k)
      → Decides b (Closed (file_base bytes) (file_others bytes) (file_entry bytes) r load)
  closed_by_all true n is all = (
    (λ _.
        closed_all
        (λ j low.
        subst (λ k. Led (file_size bytes k)) (get_or-range_with_len 0 n j 0 (omega arith) ∙ add_zero j)
        (all j 0 (omega arith) (omega (arith, length-range_with_len 0 n))))),
    λ _. refl,
  )
  closed_by_all false n is some = (
    (λ t. absurd (false≢true t)),
    λ closed.
        let low : some.0 < n = omega (arith, some.1, length-range_with_len 0 n) in
        absurd
        (some.2 0
        (subst (λ k. Led (file_size bytes k)) (sym (get_or-range_with_len 0 n some.0 0 low ∙ add_zero some.0)) (closed_one some.0 (omega arith) closed))),
  )

-- what `find` finds at the remainders below the base
module _ (m : ℕ) (others : List ℕ) (entry : ℕ → Option ℕ) where
  pub rules_by_find : (found : Option ℕ) (n : ℕ) (answer : Result (Unit {0}) ℕ) → n ≡ m
      → MatchOption found
      ((k : ℕ) → 0 ≤ k → k < n → Rule m others entry k)
      (λ i. (0 ≤ i) × (i < n) × (Rule m others entry i → ⊥) × ((k : ℕ) → 0 ≤ k → k < i → Rule m others entry k))
      → MatchOption found (answer ≡ Ok tt) (λ i. answer ≡ Err i)
      → MatchResult answer (λ _. Rules m others entry) (FirstFalse m others entry)
  rules_by_find None n answer is all ok = rw ok (λ k low. all k (omega arith) (omega arith))
  rules_by_find (Some i) n answer is found err =
      rw err (record { below = omega arith; before = λ k low. found.3 k (omega arith) low; fails = found.2 })

module _ (m : ℕ) (others : List ℕ) (entry : ℕ → Option ℕ) (r load : ℕ) (low : r < m) (present : entry r ≡ Some load) where
  -- the fourth rule says that there is a step
  step_reached : is_some (step_at (m ∷ others) entry r) ≡ true → ReachedBySome m others entry r load
  step_reached t =
      let u = first_among m entry r 1 others t in
      let g : ℕ = get_or others u.0 0 in
      let w : Summed (entry r) (entry (back m g r)) g = sum_adds (entry r) (entry (back m g r)) g u.1.1 in
      record {
        unit = u.0;
        among = u.1.0;
        reached = record {
          from = back m g r;
          least = w.least;
          below = mod-lt (r + (m - g % m)) (omega arith);
          leads = back_brings m g r (omega arith) low;
          present = w.under;
          adds = same_entry (entry r) (w.least + g) load w.over present;
        };
      }

  reached_step : ReachedBySome m others entry r load → is_some (step_at (m ∷ others) entry r) ≡ true
  reached_step s =
      let g : ℕ = get_or others s.unit 0 in
      let at : s.reached.from ≡ back m g r = back_is m g r s.reached.from (omega arith) s.reached.below s.reached.leads in
      among_first m entry r 1 others s.unit s.among
      (adds_sum (entry r) (entry (back m g r)) g (record { least = s.reached.least; under = ap entry (sym at) ∙ s.reached.present; over = present ∙ ap Some (sym s.reached.adds) }))

  -- where the first three rules hold at a remainder above 0
  pub rule_by_step : (b : Bool) → load % m ≡ r → Closed m others entry r load → (r ≡ 0 → ⊥)
      → b ≡ is_some (step_at (m ∷ others) entry r) → Decides b (Rule m others entry r)
  rule_by_step b leaves closed above told = (
    (λ t.
        record {
          start = λ z. absurd (above z);
          leaves = λ e p. subst (λ (k : ℕ). k % m ≡ r) (same_entry (entry r) load e present p) leaves;
          closed = λ e p. subst (λ (k : ℕ). Closed m others entry r k) (same_entry (entry r) load e present p) closed;
          reached = λ e p _. subst (λ (k : ℕ). ReachedBySome m others entry r k) (same_entry (entry r) load e present p) (step_reached (sym told ∙ t));
        }),
    λ rule. told ∙ reached_step (rule.reached load present above),
  )
