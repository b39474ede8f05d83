-- A true table contains a load exactly where its row makes it, so what is read of the missing loads of the table stands for its row.
use Rattle.std.proofs.Common.{◌≡◌, ℕ, zero, suc, ◌+◌, ◌-◌, ◌*◌, ◌/◌, ◌%◌, ◌≤◌, List, ℤ, pos, negsuc, Option, refl, ap, ◌∙◌, subst, inl, inr, mod-lt, mul_comm, arith}
use native.Mathlib.Nat.{div-add-mod, mul-sub, div-eq_of_eq-mul_right}
use Rattle.tables.specs.declared.refusals.Refusal.{Refusal}
use Rattle.tables.specs.Missing.{Holds, GreatestMissing, MissingCount, MissingAbove, Unending}
use Rattle.tables.specs.Rows.{Makes, Least, Table, Row, base_of}
use Rattle.tables.specs.Tables.{Lawful, Contains}
use Rattle.tables.specs.Unmade.{RowUnending}
use Rattle.tables.proofs.Present.{entry_cases}
use Rattle.tables.proofs.Makeable.{makes_more}

-- what is left of a load over another of its remainder is a number of bases
pub bases : (m load e : ℕ) → 1 ≤ m → e % m ≡ load % m → e ≤ load → (load - e) / m * m + e ≡ load
bases m load e some same within =
    let p : m * (load / m) + load % m ≡ load = div-add-mod load m in
    let q : m * (e / m) + e % m ≡ e = div-add-mod e m in
    let d : m * (load / m - e / m) ≡ m * (load / m) - m * (e / m) = mul-sub m (load / m) (e / m) in
    let whole : load - e ≡ m * (load / m - e / m) = omega arith in
    let n : (load - e) / m ≡ load / m - e / m = div-eq_of_eq-mul_right some whole in
    let t : (load - e) / m * m ≡ m * (load / m - e / m) = ap (λ x. x * m) n ∙ mul_comm (load / m - e / m) m in
    omega arith

module _ (row : List ℕ) (entry : ℕ → Option ℕ) (lawful : Lawful (base_of row) entry) (ordered : Row row) (table : Table row entry) where
  with_bases : (k n : ℕ) → Makes row n → Makes row (k * base_of row + n)
  with_bases zero n made = let e : n ≡ 0 * base_of row + n = omega arith in subst (Makes row) e made
  with_bases (suc k) n made =
      let one : Makes row (n + base_of row) = makes_more row 0 n ordered.some made in
      let e : k * base_of row + (n + base_of row) ≡ suc k * base_of row + n = omega arith in
      subst (Makes row) e (with_bases k (n + base_of row) one)

  pub contains_makes : (n : ℕ) → Contains (base_of row) entry n → Makes row n
  contains_makes n c =
      let l : Least row (n % base_of row) c.least = table.present (n % base_of row) c.least c.present in
      subst (Makes row) (bases (base_of row) n c.least lawful.low l.leaves c.within) (with_bases ((n - c.least) / base_of row) c.least l.makes)

  pub makes_contains : (n : ℕ) → Makes row n → Contains (base_of row) entry n
  makes_contains n made =
      elim (entry_cases (entry (n % base_of row))) [
        | inl none ↦ absurd (table.absent (n % base_of row) n (mod-lt n lawful.low) none made refl)
        | inr some ↦ record { least = some.0; present = some.1; within = (table.present (n % base_of row) some.0 some.1).least n made refl }
      ]

  holds_row : (y : ℤ) → Holds (Contains (base_of row) entry) y → Holds (Makes row) y
  holds_row (pos n) h = contains_makes n h
  holds_row (negsuc n) h = h

  row_holds : (y : ℤ) → Holds (Makes row) y → Holds (Contains (base_of row) entry) y
  row_holds (pos n) h = makes_contains n h
  row_holds (negsuc n) h = h

  pub row_greatest : (z : ℤ) → GreatestMissing (Contains (base_of row) entry) z → GreatestMissing (Makes row) z
  row_greatest z g = record { missing = λ h. g.missing (row_holds z h); above = λ y l. holds_row y (g.above y l) }

  pub row_count : (k : ℕ) → MissingCount (Contains (base_of row) entry) k → MissingCount (Makes row) k
  row_count k c =
      record {
        missing = c.missing;
        lists = record {
          rises = c.lists.rises;
          sound = λ i l made. c.lists.sound i l (makes_contains _ made);
          whole = λ n unmade. c.lists.whole n (λ held. unmade (contains_makes n held));
        };
        count = c.count;
      }

  pub row_unending : (reason : Refusal) → Unending (base_of row) entry reason → RowUnending row reason
  row_unending reason u =
      record {
        remainder = u.remainder;
        named = u.named;
        below = u.first.below;
        absent = λ r. table.absent u.remainder r.load u.first.below u.first.absent r.makes r.leaves;
        before = λ k l. elim (entry_cases (entry k)) [
          | inl none ↦ absurd (u.first.before k l none)
          | inr some ↦ (let least : Least row k some.0 = table.present k some.0 some.1 in record { load = some.0; makes = least.makes; leaves = least.leaves })
        ];
        more = λ n. (let one : MissingAbove (Contains (base_of row) entry) n = u.more n in record { load = one.load; above = one.above; missing = λ made. one.missing (makes_contains one.load made) });
      }
