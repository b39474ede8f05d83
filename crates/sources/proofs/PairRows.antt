-- Each entry of a pair is the least load of its remainder that the two units make.
use Rattle.std.proofs.Common.{◌≡◌, ℕ, ◌+◌, ◌*◌, ◌%◌, ◌<◌, ◌≤◌, List, [], ◌∷◌, length, None, Option, sym, refl, ap, ◌∙◌, subst, inl, inr, mul-le-mul_right, mul_comm, zero-mul, arith}
use native.Mathlib.Nat.{mul-add-mod_self_left}
use Rattle.std.proofs.lemmas.Bool.{cases_lt}
use Rattle.sources.specs.NewPairs.{Enters}
use Rattle.sources.specs.Pairs.{First}
use Rattle.tables.proofs.Present.{same_entry, not_both}
use Rattle.tables.specs.Rows.{Makes, Least, Table, total}

-- so many bases and so many of the other unit
record Two (base other n : ℕ) : Type 0 where
  bases : ℕ
  others : ℕ
  adds : bases * base + (others * other + 0) ≡ n

two : (base other n : ℕ) → Makes (base ∷ other ∷ []) n → Two base other n
two base other n makes = from makes.counts makes.each makes.adds
  where
    from : (counts : List ℕ) → length counts ≡ 2 → total (base ∷ other ∷ []) counts ≡ n → Two base other n
    from [] each adds = absurd (omega arith)
    from (i ∷ []) each adds = absurd (omega arith)
    from (i ∷ j ∷ []) each adds = record { bases = i; others = j; adds = adds }
    from (i ∷ j ∷ k ∷ more) each adds = absurd (omega arith)

-- a load leaves what its part of the other unit leaves, so that part has no fewer turns than the first
first_least : (base other r e : ℕ) → First base other r e → Least (base ∷ other ∷ []) r e
first_least base other r e f = record {
  makes = record { counts = 0 ∷ f.turns ∷ []; each = refl; adds = omega (arith, zero-mul base, f.is) };
  leaves = f.leaves;
  least = λ n makes left.
      let t : Two base other n = two base other n makes in
      let parts : n ≡ base * t.bases + t.others * other = omega (arith, mul_comm base t.bases, t.adds) in
      let others_left : (t.others * other) % base ≡ r =
      sym (mul-add-mod_self_left base t.bases (t.others * other)) ∙ ap (λ (k : ℕ). k % base) (sym parts) ∙ left in
      let turns : f.turns * other ≤ t.others * other = mul-le-mul_right other (f.first t.others others_left) in
      omega (arith, f.is);
}

pub entries_table : (base other : ℕ) (entry : ℕ → Option ℕ) → ((r : ℕ) → r < base → Enters base other entry r) → ((r : ℕ) → base ≤ r → entry r ≡ None) → Table (base ∷ other ∷ []) entry
entries_table base other entry entries past = record {
  present = λ r e p.
      elim (cases_lt r base) [
        | inl low ↦ (let h : Enters base other entry r = entries r low in
            subst (Least (base ∷ other ∷ []) r) (same_entry (entry r) h.load e h.present p) (first_least base other r h.load h.first))
        | inr high ↦ absurd (not_both (entry r) e p (past r high))
      ];
  absent = λ r n low none makes left. let h : Enters base other entry r = entries r low in not_both (entry r) h.load h.present none;
}
