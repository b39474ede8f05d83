-- A taken load settles: its remainder is finished already, or is finished with it.
use Rattle.std.proofs.Common.{◌≡◌, ℕ, ◌+◌, ◌-◌, ◌*◌, ◌%◌, ◌<◌, ◌≤◌, List, [], ◌∷◌, ◌++◌, length, get_or, set, sym, refl, ap, ◌∙◌, subst, ⊎_elim, mod-lt, arith}
use native.Mathlib.Nat.{zero-mod}
use Rattle.std.proofs.lemmas.List.{length_push, get_or_push, get_or_append_left, get_or-set_same, get_or-set_other}
use Rattle.std.proofs.lemmas.Bool.{cases_lt, cases_eq}
use Rattle.books.specs.declared.rebuild.candidates.Candidate.{Candidate}
use Rattle.books.specs.Merges.{nobody, load_of, Waits, Under, Loads, Covered, Marked, State, Half, Ended}
use Rattle.books.proofs.Places.{fits, spare}
use Rattle.books.proofs.Waits.{waits_same}

-- there are as many finished loads as remainders, at most
pub marked_fits : (m : ℕ) (strip order : List ℕ) (n : ℕ) → 0 < m → Marked m strip order n → n ≤ m
marked_fits m strip order n pos marks = fits m n (λ k. get_or order k 0 % m) (λ k h. mod-lt (get_or order k 0) pos) marks.apart

-- and fewer where a remainder is not marked
pub marked_spare : (m : ℕ) (strip order : List ℕ) (n r : ℕ) → 0 < m → Marked m strip order n → r < m → (get_or strip r 0 ≡ 1 → ⊥) → n < m
marked_spare m strip order n r pos marks low fresh =
    spare m n (λ k. get_or order k 0 % m) r (λ k h. mod-lt (get_or order k 0) pos) marks.apart low
    (λ k h e. fresh (subst (λ (i : ℕ). get_or strip i 0 ≡ 1) e (marks.shows k h)))

module _ (sizes : List ℕ) (m : ℕ) (strip order points : List ℕ) (n : ℕ) (x : Candidate) (wl : List Candidate) (h : Half sizes m strip order points n x wl) (pos : 0 < m) where
  -- the remainder is taken already: nothing else changes
  pub settle_old : get_or strip (x.load % m) 0 ≡ 1 → State sizes m strip order points n wl
  settle_old e =
      let t = h.marks.taken (x.load % m) (mod-lt x.load pos) e in
      let some : 1 ≤ n = h.so_far.some in
      let tn : t.0 < n = t.1 in
      let up : get_or order t.0 0 ≤ get_or order (n - 1) 0 = h.so_far.rises t.0 (n - 1) (omega arith) (omega arith) in
      let top : get_or order (n - 1) 0 ≤ x.load = h.top in
      let cov : Covered m order n x.load = record { place = t.0; inside = t.1; leaves = t.2; within = omega arith } in
      record {
        so_far = h.so_far;
        marks = h.marks;
        upto = h.upto;
        done = λ u j hu hj. ⊎_elim
            (λ p. subst (λ (l : ℕ). Covered m order n l) (h.load ∙ (ap (λ (i : ℕ). get_or order i 0 + get_or sizes x.position 0) (sym p.1) ∙ ap (λ (v : ℕ). get_or order j 0 + get_or sizes v 0) (sym p.0))) cov)
            (λ c. c) (h.done u j hu hj);
        waits = h.waits;
        later = λ k hk. let l : x.load ≤ (get_or wl k nobody).load = h.later k hk in omega arith;
      }

  module _ (grown : List ℕ) (is : grown ≡ order ++ x.load ∷ []) (all : length order ≡ n)
      (long : m ≤ length strip) (fresh : get_or strip (x.load % m) 0 ≡ 1 → ⊥) (small : get_or sizes x.position 0 ≤ 65535) where
    old_load : (k : ℕ) → k < n → get_or grown k 0 ≡ get_or order k 0
    old_load k lt = ap (λ (l : List ℕ). get_or l k 0) is ∙ get_or_append_left order (x.load ∷ []) 0 k (omega arith)

    pub new_load : get_or grown n 0 ≡ x.load
    new_load = ap (λ (l : List ℕ). get_or l n 0) is ∙ get_or_push order x.load 0 n all

    pub one_more : length grown ≡ n + 1
    one_more = let e : length grown ≡ length (order ++ x.load ∷ []) = ap length is in omega (arith, length_push order x.load)

    rem : x.load % m < m
    rem = mod-lt x.load pos

    new_mark : get_or (set strip (x.load % m) 1) (x.load % m) 0 ≡ 1
    new_mark = get_or-set_same strip (x.load % m) 1 0 (let l : x.load % m < m = rem in omega arith)

    pub new_bound : x.load ≤ 65535 * n
    new_bound =
        let b : get_or order h.from 0 ≤ 65535 * h.from = h.so_far.bound h.from h.before in
        let f : h.from < n = h.before in
        omega (arith, h.load)

    pub waits_grown : Waits grown points sizes (Under points n) wl
    waits_grown = waits_same order points grown points sizes (Under points n) (Under points n) wl h.waits
        (λ v hv a. a) (λ v hv a. a) (λ v hv a. ap (λ (l : ℕ). l + get_or sizes v 0) (sym (old_load (get_or points v 0) a)))

    new_loads : Loads sizes grown (n + 1)
    new_loads =
        let some : 1 ≤ n = h.so_far.some in
        let low : (j : ℕ) → j < n → get_or order j 0 ≤ x.load = λ j lt. let a : get_or order j 0 ≤ get_or order (n - 1) 0 = h.so_far.rises j (n - 1) (omega arith) (omega arith) in let b : get_or order (n - 1) 0 ≤ x.load = h.top in omega arith in
        record {
          some = omega arith;
          inside = omega (arith, one_more);
          first = old_load 0 some ∙ h.so_far.first;
          rises = λ j k le lt. ⊎_elim
              (λ (kn : k < n). let jn : j < n = omega arith in rw (old_load j jn, old_load k kn) (h.so_far.rises j k le kn))
              (λ (nk : n ≤ k). let e : k ≡ n = omega arith in rw (e, new_load) (⊎_elim
              (λ (jn : j < n). rw (old_load j jn) (low j jn))
              (λ (nj : n ≤ j). let q : j ≡ n = omega arith in rw (q, new_load) (omega arith)) (cases_lt j n)))
              (cases_lt k n);
          bound = λ k lt. ⊎_elim
              (λ (kn : k < n). rw (old_load k kn) (h.so_far.bound k kn))
              (λ (nk : n ≤ k). let e : k ≡ n = omega arith in rw (e, new_load) new_bound) (cases_lt k n);
          made = λ k le lt. ⊎_elim
              (λ (kn : k < n). let d = h.so_far.made k le kn in let jn : d.0 < n = let l = d.2 in omega arith in
              (d.0, d.1, d.2, d.3, rw (old_load d.0 jn, old_load k kn) d.4))
              (λ (nk : n ≤ k). let e : k ≡ n = omega arith in
              (h.from, x.position, rw e h.before, h.unit, rw (e, new_load, old_load h.from h.before) h.load))
              (cases_lt k n);
        }

    new_marks : Marked m (set strip (x.load % m) 1) grown (n + 1)
    new_marks = record {
      taken = λ r lt e. ⊎_elim
          (λ (q : r ≡ x.load % m). (n, omega arith, rw new_load (sym q)))
          (λ (q : r ≡ x.load % m → ⊥). let d = h.marks.taken r lt (sym (get_or-set_other strip (x.load % m) r 1 0 q) ∙ e) in
          (d.0, (let l = d.1 in omega arith), rw (old_load d.0 d.1) d.2))
          (cases_eq r (x.load % m));
      shows = λ k lt. ⊎_elim
          (λ (kn : k < n). rw (old_load k kn) (⊎_elim
          (λ (q : get_or order k 0 % m ≡ x.load % m). rw q new_mark)
          (λ (q : get_or order k 0 % m ≡ x.load % m → ⊥). get_or-set_other strip (x.load % m) (get_or order k 0 % m) 1 0 q ∙ h.marks.shows k kn)
          (cases_eq (get_or order k 0 % m) (x.load % m))))
          (λ (nk : n ≤ k). let e : k ≡ n = omega arith in rw (e, new_load) new_mark)
          (cases_lt k n);
      apart = λ j k lj lk e. ⊎_elim
          (λ (jn : j < n). ⊎_elim
          (λ (kn : k < n). h.marks.apart j k jn kn (rw (old_load j jn, old_load k kn) at e))
          (λ (nk : n ≤ k). let q : k ≡ n = omega arith in absurd (fresh (subst (λ (r : ℕ). get_or strip r 0 ≡ 1) (rw (old_load j jn, q, new_load) at e) (h.marks.shows j jn))))
          (cases_lt k n))
          (λ (nj : n ≤ j). let q : j ≡ n = omega arith in ⊎_elim
          (λ (kn : k < n). absurd (fresh (subst (λ (r : ℕ). get_or strip r 0 ≡ 1) (sym (rw (old_load k kn, q, new_load) at e)) (h.marks.shows k kn))))
          (λ (nk : n ≤ k). omega arith)
          (cases_lt k n))
          (cases_lt j n);
    }

    -- the remainder is new: the load is appended, and the idle units wait again
    pub settle_new : (wl' : List Candidate) → Waits grown points sizes (Under points (n + 1)) wl'
        → State sizes m (set strip (x.load % m) 1) grown points (n + 1) wl'
    settle_new wl' w =
        let fn : h.from < n = h.before in
        record {
          so_far = new_loads;
          marks = new_marks;
          upto = λ u hu. let l : get_or points u 0 ≤ n = h.upto u hu in omega arith;
          done = λ u j hu hj.
              let jn : j < n = let l : get_or points u 0 ≤ n = h.upto u hu in omega arith in
              rw (old_load j jn) (⊎_elim
              (λ p. record {
                place = n;
                inside = omega arith;
                leaves = rw (new_load, h.load, p.0, p.1) refl;
                within = rw (new_load, h.load, p.0, p.1) (omega arith);
              })
              (λ c. record {
                place = c.place;
                inside = (let l : c.place < n = c.inside in omega arith);
                leaves = rw (old_load c.place c.inside) c.leaves;
                within = rw (old_load c.place c.inside) c.within;
              })
              (h.done u j hu hj));
          waits = w;
          later = λ k hk.
              let u : ℕ = (get_or wl' k nobody).position in
              let s : n + 1 - 1 ≡ n = omega arith in
              let a : get_or points u 0 < n + 1 = w.active k hk in
              rw (s, new_load, w.loads k hk) (⊎_elim
              (λ (pn : get_or points u 0 < n).
              let f = h.waits.full u (w.known k hk) pn in
              let ld : x.load ≤ (get_or wl f.0 nobody).load = h.later f.0 f.1 in
              let same : (get_or wl f.0 nobody).load ≡ get_or order (get_or points u 0) 0 + get_or sizes u 0
              = h.waits.loads f.0 f.1 ∙ ap (λ (v : ℕ). load_of order points sizes v) f.2 in
              rw (old_load (get_or points u 0) pn) (omega arith))
              (λ (np : n ≤ get_or points u 0). let e : get_or points u 0 ≡ n = omega arith in rw (e, new_load) (omega arith))
              (cases_lt (get_or points u 0) n));
        }

-- at the end no unit has a candidate, so every pointer has passed every load
pub closed_from : (sizes : List ℕ) (m : ℕ) (strip order points : List ℕ) (n : ℕ) (wl : List Candidate)
    → State sizes m strip order points n wl → length wl ≡ 0 → Ended sizes m order n
closed_from sizes m strip order points n wl s e = record {
  so_far = s.so_far;
  apart = s.marks.apart;
  closed = λ u j hu hj. ⊎_elim
      (λ (lt : get_or points u 0 < n). let f = s.waits.full u hu lt in let l : f.0 < length wl = f.1 in absurd (omega arith))
      (λ (le : n ≤ get_or points u 0). s.done u j hu (omega arith))
      (cases_lt (get_or points u 0) n);
}

-- nothing waits at first
pub waits_none : (order points sizes : List ℕ) (wl : List Candidate) → length wl ≡ 0 → Waits order points sizes (Under points 0) wl
waits_none order points sizes wl e = record {
  known = λ k h. absurd (omega arith);
  active = λ k h. absurd (omega arith);
  loads = λ k h. absurd (omega arith);
  full = λ u h a. absurd (omega arith);
  alone = λ j k hj hk q. absurd (omega arith);
}

pub started : (sizes : List ℕ) (m : ℕ) (strip order points : List ℕ) (wl : List Candidate)
    → 0 < m → m ≤ length strip → ((r : ℕ) → get_or strip r 0 ≡ 0) → order ≡ 0 ∷ [] → ((u : ℕ) → get_or points u 0 ≡ 0)
    → Waits order points sizes (Under points 1) wl
    → State sizes m (set strip 0 1) order points 1 wl
started sizes m strip order points wl pos long clear is fresh w =
    let z : get_or order 0 0 ≡ 0 = ap (λ (l : List ℕ). get_or l 0 0) is in
    let one : get_or (set strip 0 1) 0 0 ≡ 1 = get_or-set_same strip 0 1 0 (omega arith) in
    record {
      so_far = record {
        some = omega arith;
        inside = (let e : length order ≡ 1 = ap length is in omega arith);
        first = z;
        rises = λ j k le lt. let a : j ≡ 0 = omega arith in let b : k ≡ 0 = omega arith in rw (a, b) (omega arith);
        bound = λ k lt. let b : k ≡ 0 = omega arith in rw (b, z) (omega arith);
        made = λ k le lt. absurd (omega arith);
      };
      marks = record {
        taken = λ r lt e. ⊎_elim
            (λ (q : r ≡ 0). (0, omega arith, rw (z, q) (zero-mod m)))
            (λ (q : r ≡ 0 → ⊥). let f : get_or strip r 0 ≡ 1 = sym (get_or-set_other strip 0 r 1 0 q) ∙ e in let g = clear r in absurd (omega arith))
            (cases_eq r 0);
        shows = λ k lt. let b : k ≡ 0 = omega arith in rw (b, z, zero-mod m) one;
        apart = λ j k lj lk e. omega arith;
      };
      upto = λ u h. rw (fresh u) (omega arith);
      done = λ u j h l. let q = fresh u in absurd (omega arith);
      waits = w;
      later = λ k h. rw z (omega arith);
    }
