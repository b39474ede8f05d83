-- Why a meet keeps the sentences of a source.
use Rattle.std.specs.Prelude.{◌≡◌, ℕ, ◌<◌, ◌≤◌, max, Bool, true, false, cond, ◌⊎◌, Some, None, Option, ◌==◌, refl}
use Rattle.std.proofs.Common.{ap, inl, inr, ⊎_elim, arith}
use Rattle.std.proofs.lemmas.Bool.{eqb-true, cases_lt}
use Rattle.sources.specs.Meets.{later, met}
use Rattle.tables.specs.Tables.{Lawful}

-- the later of two entries is one of them
one_of : (x y : Option ℕ) (e : ℕ) → later x y ≡ Some e → (x ≡ Some e) ⊎ (y ≡ Some e)
one_of None y e h = inl h
one_of (Some x) None e h = inr h
one_of (Some x) (Some y) e h =
    let greater : max x y ≡ e = cc in
    ⊎_elim
    (λ (l : x < y). let s : y ≡ e = omega arith in inr (ap Some s))
    (λ (l : y ≤ x). let s : x ≡ e = omega arith in inl (ap Some s))
    (cases_lt x y)

module _ (m n : ℕ) (first second : ℕ → Option ℕ) (p : Lawful m first) (q : Lawful n second) where
  later_lawful : m ≡ n → Lawful m (λ r. later (first r) (second r))
  later_lawful same = record {
    low = p.low;
    high = p.high;
    zero = rw (p.zero, q.zero) refl;
    past = λ r h. rw (p.past r h) refl;
    leaves = λ r e h. ⊎_elim (p.leaves r e) (λ t. rw same (q.leaves r e t)) (one_of (first r) (second r) e h);
    fits = λ r e h. ⊎_elim (p.fits r e) (q.fits r e) (one_of (first r) (second r) e h);
  }

  by_test : (b : Bool) → (b ≡ true → m ≡ n) → Lawful m (λ r. cond b (later (first r) (second r)) (first r))
  by_test true same = later_lawful (same refl)
  by_test false same = p

  pub met_lawful : Lawful m (met m n first second)
  met_lawful = by_test (m == n) (eqb-true m n)

pub met_past : (m n : ℕ) (first second : ℕ → Option ℕ) → ((r : ℕ) → m ≤ r → first r ≡ None) → (r : ℕ) → m ≤ r → met m n first second r ≡ None
met_past m n first second past r h = by_test (m == n)
  where
    by_test : (b : Bool) → cond b (later (first r) (second r)) (first r) ≡ None
    by_test true = rw (past r h) refl
    by_test false = past r h
