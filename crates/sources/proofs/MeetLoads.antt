-- At equal bases a meet contains a load exactly where both tables do.
use Rattle.std.proofs.Common.{◌≡◌, ℕ, ◌%◌, ◌≤◌, max, Bool, cond, Some, None, Option, sym, refl, ap, ◌∙◌, subst, arith}
use Rattle.std.proofs.lemmas.Bool.{eq-eqb}
use Rattle.sources.specs.Meets.{Meets, later, met}
use Rattle.tables.proofs.Present.{not_both}
use Rattle.tables.specs.Tables.{Contains}

-- both entries are present and at most the load
record Both (x y : Option ℕ) (load : ℕ) : Type 0 where
  one : ℕ
  two : ℕ
  is_one : x ≡ Some one
  is_two : y ≡ Some two
  one_within : one ≤ load
  two_within : two ≤ load

later_both : (x y : Option ℕ) (e load : ℕ) → later x y ≡ Some e → e ≤ load → Both x y load
later_both None y e load h le = absurd (not_both None e h refl)
later_both (Some a) None e load h le = absurd (not_both None e h refl)
later_both (Some a) (Some b) e load h le =
    let greater : max a b ≡ e = cc in
    record { one = a; two = b; is_one = refl; is_two = refl; one_within = omega arith; two_within = omega arith }

module _ (m : ℕ) (first second : ℕ → Option ℕ) where
  met_is : (r : ℕ) → met m m first second r ≡ later (first r) (second r)
  met_is r = ap (λ (b : Bool). cond b (later (first r) (second r)) (first r)) (eq-eqb m m refl)

  both_of : (load : ℕ) → Contains m (met m m first second) load → Both (first (load % m)) (second (load % m)) load
  both_of load c = later_both (first (load % m)) (second (load % m)) c.least load (sym (met_is (load % m)) ∙ c.present) c.within

  meets_here : Meets m m first second
  meets_here = record {
    same = refl;
    by_first = λ load c. let b = both_of load c in record { least = b.one; present = b.is_one; within = b.one_within };
    by_second = λ load c. let b = both_of load c in record { least = b.two; present = b.is_two; within = b.two_within };
    by_meet = λ load x y. record {
      least = max x.least y.least;
      present = met_is (load % m) ∙ rw (x.present, y.present) refl;
      within = omega (arith, x.within, y.within);
    };
  }

pub meets_equal : (m n : ℕ) (first second : ℕ → Option ℕ) → m ≡ n → Meets m n first second
meets_equal m n first second same = subst (λ (k : ℕ). Meets m k first second) same (meets_here m first second)
