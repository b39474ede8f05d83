-- Least loads: a remainder by the base has one at most, a true table has it as the entry, and it loses some unit and stays a least load.
use Rattle.std.proofs.Common.{◌≡◌, ℕ, zero, suc, ◌+◌, ◌%◌, ◌<◌, ◌≤◌, List, length, get_or, Some, Option, sym, refl, ap, ◌∙◌, inl, inr, arith}
use native.Mathlib.Nat.{zero-mod, mod-add-mod, add-mod_right}
use Rattle.std.proofs.lemmas.Bool.{cases_lt}
use Rattle.tables.specs.Rows.{Makes, Row, Least, Table, base_of}
use Rattle.tables.proofs.Present.{entry_cases}
use Rattle.tables.proofs.Makeable.{makes_more, makes_fewer, Fewer}

-- the base is a unit, so it is not 0
pub base_some : (row : List ℕ) → Row row → 1 ≤ base_of row
base_some row ordered = (ordered.sizes 0 ordered.some).0

pub least_one : (row : List ℕ) (r a b : ℕ) → Least row r a → Least row r b → a ≡ b
least_one row r a b p q = omega (arith, p.least b q.makes q.leaves, q.least a p.makes p.leaves)

-- the entries of a true table are the least loads of its row
pub least_entry : (row : List ℕ) (entry : ℕ → Option ℕ) → Table row entry → (r e : ℕ) → r < base_of row → Least row r e → entry r ≡ Some e
least_entry row entry table r e low l =
    elim (entry_cases (entry r)) [
      | inl none ↦ absurd (table.absent r e low none l.makes l.leaves)
      | inr some ↦ some.1 ∙ ap Some (least_one row r some.0 e (table.present r some.0 some.1) l)
    ]

-- a load less by one unit other than the base, and the least of its remainder
pub record Lighter (row : List ℕ) (load : ℕ) : Type 0 where
  pub unit : ℕ
  pub other : 1 ≤ unit
  pub inside : unit < length row
  pub rest : ℕ
  pub is_least : Least row (rest % base_of row) rest
  pub adds : rest + get_or row unit 0 ≡ load

-- Of a least load other than that of 0 no base can be taken, since what is left would be of the same remainder.
-- Any other unit leaves a least load, since with the unit no lesser one would be below the load.
pub lighter : (row : List ℕ) → 1 ≤ base_of row → (r e : ℕ) → (r ≡ 0 → ⊥) → Least row r e → Lighter row e
lighter row some r e nonzero l =
    let above : 1 ≤ e = elim (cases_lt 0 e) [ inl h ↦ h | inr h ↦ absurd (nonzero (at_zero (omega arith))) ] in
    let f : Fewer row e = makes_fewer row e above l.makes in
    taken f.unit f.rest f.among f.makes f.adds
  where
    at_zero : e ≡ 0 → r ≡ 0
    at_zero z = sym l.leaves ∙ ap (λ k. k % base_of row) z ∙ zero-mod (base_of row)

    taken : (unit rest : ℕ) → unit < length row → Makes row rest → rest + get_or row unit 0 ≡ e → Lighter row e
    taken zero rest h made adds =
        let same : rest % base_of row ≡ r = sym (add-mod_right rest (base_of row)) ∙ ap (λ k. k % base_of row) adds ∙ l.leaves in
        absurd (omega (arith, l.least rest made same))
    taken (suc unit) rest h made adds =
        let g : ℕ = get_or row (suc unit) 0 in
        record {
          unit = suc unit;
          other = omega arith;
          inside = h;
          rest = rest;
          is_least = record {
            makes = made;
            leaves = refl;
            least = λ n makes same.
                let brings : (n + g) % base_of row ≡ r =
                sym (mod-add-mod n (base_of row) g) ∙ ap (λ k. (k + g) % base_of row) same ∙ mod-add-mod rest (base_of row) g ∙ ap (λ k. k % base_of row) adds ∙ l.leaves in
                omega (arith, l.least (n + g) (makes_more row (suc unit) n h makes) brings);
          };
          adds = adds;
        }
