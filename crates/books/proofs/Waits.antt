-- One candidate waits for each active unit: what is put in and taken out keeps that.
use Rattle.std.proofs.Common.{◌≡◌, ℕ, ◌+◌, ◌-◌, ◌<◌, ◌≤◌, false, ◌⊎◌, List, [], ◌∷◌, ◌++◌, length, get_or, take, set, sym, refl, ap, ◌∙◌, subst, inl, inr, ⊎_elim, arith}
use Rattle.std.proofs.lemmas.Bool.Decides.{nat_tests}
use Rattle.std.proofs.lemmas.List.{length_push, get_or_push, get_or_append_left, get_or-take, length-take-le, length-set, get_or-set_same, get_or-set_other, get_or_default}
use Rattle.std.proofs.lemmas.Bool.{cases_lt, cases_eq}
use Rattle.books.specs.declared.rebuild.candidates.Candidate.{Candidate}
use Rattle.waiting.specs.Lists.{Least}
use Rattle.books.specs.Candidates.{sooner}
use Rattle.books.specs.Merges.{nobody, load_of, Waits}
use Rattle.books.proofs.Places.{fits}

-- as many wait as there are units, at most
pub waits_length : (order points sizes : List ℕ) (Active : ℕ → Type 0) (wl : List Candidate) → Waits order points sizes Active wl → length wl ≤ length sizes
waits_length order points sizes Active wl w = fits (length sizes) (length wl) (λ k. (get_or wl k nobody).position) w.known w.alone

-- so there is room for one more where the units are served after it
pub waits_room : (order points sizes : List ℕ) (Active : ℕ → Type 0) (wl : List Candidate) (x : Candidate)
    → Waits order points sizes Active (wl ++ x ∷ []) → length wl < length sizes
waits_room order points sizes Active wl x w =
    let h : length (wl ++ x ∷ []) ≤ length sizes = waits_length order points sizes Active (wl ++ x ∷ []) w in omega (arith, length_push wl x)

-- a place of a list with one more is an old place, or the last
pub places_push : (wl : List Candidate) (x : Candidate) (k : ℕ) → k < length (wl ++ x ∷ [])
    → ((k < length wl) × (get_or (wl ++ x ∷ []) k nobody ≡ get_or wl k nobody)) ⊎ ((k ≡ length wl) × (get_or (wl ++ x ∷ []) k nobody ≡ x))
places_push wl x k h =
    let n : length (wl ++ x ∷ []) ≡ length wl + 1 = length_push wl x in
    ⊎_elim (λ (lt : k < length wl). inl (lt, get_or_append_left wl (x ∷ []) nobody k lt))
    (λ (le : length wl ≤ k). let e : length wl ≡ k = omega arith in inr (sym e, get_or_push wl x nobody k e)) (cases_lt k (length wl))

module _ (order points sizes : List ℕ) where
  pub waits_put : (Active Active' : ℕ → Type 0) (wl : List Candidate) (u : ℕ) (x : Candidate)
      → Waits order points sizes Active wl → u < length sizes → (Active u → ⊥)
      → Active' u → ((v : ℕ) → Active v → Active' v) → ((v : ℕ) → Active' v → (v ≡ u) ⊎ Active v)
      → x.position ≡ u → x.load ≡ load_of order points sizes u
      → Waits order points sizes Active' (wl ++ x ∷ [])
  waits_put Active Active' wl u x w lt idle now_u more less px lx = record {
    known = λ k h. ⊎_elim (λ p. rw p.1 (w.known k p.0)) (λ p. rw (p.1, px) lt) (places_push wl x k h);
    active = λ k h. ⊎_elim (λ p. rw p.1 (more _ (w.active k p.0))) (λ p. rw (p.1, px) now_u) (places_push wl x k h);
    loads = λ k h. ⊎_elim (λ p. rw p.1 (w.loads k p.0)) (λ p. rw (p.1, px) lx) (places_push wl x k h);
    full = λ v h a. ⊎_elim
        (λ e. (length wl, omega (arith, length_push wl x), rw (get_or_push wl x nobody (length wl) refl) (px ∙ sym e)))
        (λ a. let f = w.full v h a in (f.0, omega (arith, length_push wl x, f.1), rw (get_or_append_left wl (x ∷ []) nobody f.0 f.1) f.2))
        (less v a);
    alone = λ j k hj hk e.
        ⊎_elim
        (λ p. ⊎_elim
        (λ q. w.alone j k p.0 q.0 (rw (p.1, q.1) at e))
        (λ q. absurd (idle (subst Active ((rw (p.1, q.1) at e) ∙ px) (w.active j p.0))))
        (places_push wl x k hk))
        (λ p. ⊎_elim
        (λ q. absurd (idle (subst Active (sym (rw (p.1, q.1) at e) ∙ px) (w.active k q.0))))
        (λ q. p.0 ∙ sym q.0)
        (places_push wl x k hk))
        (places_push wl x j hj);
  }

-- the same candidates serve where the active units and their loads are the same
pub waits_same : (order points order' points' sizes : List ℕ) (Active Active' : ℕ → Type 0) (wl : List Candidate)
    → Waits order points sizes Active wl
    → ((v : ℕ) → v < length sizes → Active v → Active' v) → ((v : ℕ) → v < length sizes → Active' v → Active v)
    → ((v : ℕ) → v < length sizes → Active v → load_of order points sizes v ≡ load_of order' points' sizes v)
    → Waits order' points' sizes Active' wl
waits_same order points order' points' sizes Active Active' wl w on off same = record {
  known = w.known;
  active = λ k h. on _ (w.known k h) (w.active k h);
  loads = λ k h. w.loads k h ∙ same _ (w.known k h) (w.active k h);
  full = λ v h a. w.full v h (off v h a);
  alone = w.alone;
}

-- at one load no one is sooner with less
pub sooner_load : (y x : Candidate) → sooner y x ≡ false → x.load ≤ y.load
sooner_load y x h = grind (arith, nat_tests)

module _ (old wl : List Candidate) (x : Candidate) (out : Least sooner old wl x) where
  pub out_length : length wl + 1 ≡ length old
  out_length =
      let y : Candidate = get_or old (length old - 1) x in
      let e : length wl ≡ length (take (length old - 1) (set old out.place y)) = ap length out.leaves in
      let s : length (set old out.place y) ≡ length old = length-set old out.place y in
      let p : out.place < length old = out.inside in
      omega (arith, length-take-le (length old - 1) (set old out.place y) (omega arith))

  pub out_x : get_or old out.place nobody ≡ x
  out_x = get_or_default old out.place nobody x out.inside ∙ out.there

  pub out_at : (k : ℕ) → k < length wl
      → ((k ≡ out.place) × (get_or wl k nobody ≡ get_or old (length old - 1) nobody)) ⊎ ((k ≡ out.place → ⊥) × (get_or wl k nobody ≡ get_or old k nobody))
  out_at k h =
      let n : length wl + 1 ≡ length old = out_length in
      let y : Candidate = get_or old (length old - 1) x in
      let e : get_or wl k nobody ≡ get_or (set old out.place y) k nobody
      = ap (λ (l : List Candidate). get_or l k nobody) out.leaves ∙ get_or-take (length old - 1) (set old out.place y) k nobody (omega arith) in
      ⊎_elim
      (λ (q : k ≡ out.place). inl (
        q,
        e ∙ (ap (λ (i : ℕ). get_or (set old out.place y) i nobody) q
            ∙ (get_or-set_same old out.place y nobody out.inside ∙ get_or_default old (length old - 1) x nobody (omega arith))),
      ))
      (λ (q : k ≡ out.place → ⊥). inr (q, e ∙ get_or-set_other old out.place k y nobody q))
      (cases_eq k out.place)

  pub out_later : (k : ℕ) → k < length wl → x.load ≤ (get_or wl k nobody).load
  out_later k h =
      let n : length wl + 1 ≡ length old = out_length in
      let low : (j : ℕ) → j < length old → x.load ≤ (get_or old j nobody).load
      = λ j hj. sooner_load (get_or old j nobody) x (rw (get_or_default old j nobody x hj) (out.least j hj)) in
      ⊎_elim (λ p. rw p.1 (low (length old - 1) (omega arith))) (λ p. rw p.1 (low k (omega arith))) (out_at k h)

  pub waits_take : (order points order' points' sizes : List ℕ) (Active Active' : ℕ → Type 0)
      → Waits order points sizes Active old
      → ((v : ℕ) → Active v → (v ≡ x.position → ⊥) → Active' v) → ((v : ℕ) → v < length sizes → Active' v → Active v × (v ≡ x.position → ⊥))
      → ((v : ℕ) → v < length sizes → Active v → (v ≡ x.position → ⊥) → load_of order points sizes v ≡ load_of order' points' sizes v)
      → Waits order' points' sizes Active' wl
  waits_take order points order' points' sizes Active Active' w on off same =
      let n : length wl + 1 ≡ length old = out_length in
      let inx : out.place < length old = out.inside in
      let apart : (j : ℕ) → j < length old → (j ≡ out.place → ⊥) → (get_or old j nobody).position ≡ x.position → ⊥
      = λ j hj ne e. ne (w.alone j out.place hj inx (e ∙ sym (ap (λ (c : Candidate). c.position) out_x))) in
      let source : (k : ℕ) → k < length wl → (j : ℕ) × (j < length old) × (j ≡ out.place → ⊥) × (get_or wl k nobody ≡ get_or old j nobody)
      = λ k h. ⊎_elim (λ p. (length old - 1, omega arith, (λ e. omega (arith, p.0)), p.1)) (λ p. (k, omega arith, p.0, p.1)) (out_at k h) in
      record {
        known = λ k h. let s = source k h in rw s.3 (w.known s.0 s.1);
        active = λ k h. let s = source k h in rw s.3 (on _ (w.active s.0 s.1) (apart s.0 s.1 s.2));
        loads = λ k h. let s = source k h in rw s.3 (w.loads s.0 s.1 ∙ same _ (w.known s.0 s.1) (w.active s.0 s.1) (apart s.0 s.1 s.2));
        full = λ v h a.
            let b = off v h a in
            let f = w.full v h b.0 in
            let ne : f.0 ≡ out.place → ⊥ = λ e. b.1 (sym f.2 ∙ (ap (λ (i : ℕ). (get_or old i nobody).position) e ∙ ap (λ (c : Candidate). c.position) out_x)) in
            ⊎_elim
            (λ (q : f.0 ≡ length old - 1).
            let pl : out.place < length wl = let l = f.1 in omega (arith, ne) in
            let e : get_or wl out.place nobody ≡ get_or old (length old - 1) nobody
            = ⊎_elim (λ p. p.1) (λ p. absurd (p.0 refl)) (out_at out.place pl) in
            (out.place, pl, ap (λ (c : Candidate). c.position) e ∙ (ap (λ (i : ℕ). (get_or old i nobody).position) (sym q) ∙ f.2)))
            (λ (q : f.0 ≡ length old - 1 → ⊥).
            let fl : f.0 < length wl = let l = f.1 in omega arith in
            let e : get_or wl f.0 nobody ≡ get_or old f.0 nobody = ⊎_elim (λ p. absurd (ne p.0)) (λ p. p.1) (out_at f.0 fl) in
            (f.0, fl, ap (λ (c : Candidate). c.position) e ∙ f.2))
            (cases_eq f.0 (length old - 1));
        alone = λ j k hj hk e.
            ⊎_elim
            (λ p. ⊎_elim
            (λ q. p.0 ∙ sym q.0)
            (λ q. let z : length old - 1 ≡ k = w.alone (length old - 1) k (omega arith) (omega arith) (rw (p.1, q.1) at e) in absurd (omega arith))
            (out_at k hk))
            (λ p. ⊎_elim
            (λ q. let z : j ≡ length old - 1 = w.alone j (length old - 1) (omega arith) (omega arith) (rw (p.1, q.1) at e) in absurd (omega arith))
            (λ q. w.alone j k (omega arith) (omega arith) (rw (p.1, q.1) at e))
            (out_at k hk))
            (out_at j hj);
      }
