-- A unit is served again: at a refill, and after its candidate is taken out.
use Rattle.std.proofs.Common.{◌≡◌, ℕ, ◌+◌, ◌-◌, ◌<◌, ◌≤◌, List, [], ◌∷◌, ◌++◌, length, get_or, set, sym, refl, ap, ◌∙◌, subst, inl, inr, ⊎_elim, arith}
use Rattle.std.proofs.lemmas.List.{get_or-set_same, get_or-set_other}
use Rattle.std.proofs.lemmas.Bool.{cases_lt, cases_eq}
use Rattle.books.specs.declared.rebuild.candidates.Candidate.{Candidate}
use Rattle.books.specs.Merges.{nobody, load_of, Waits, Under, UnderOr, Turning, Half}
use Rattle.books.proofs.Waits.{places_push, waits_room, waits_put, waits_same, waits_take, out_later, out_x}

module _ (order points sizes : List ℕ) (n i : ℕ) (wl : List Candidate) (w : Waits order points sizes (UnderOr points n i) wl) where
  pub refill_put : (x : Candidate) (wl' : List Candidate) → wl' ≡ wl ++ x ∷ [] → i < length sizes → get_or points i 0 ≡ n → x.position ≡ i → x.load ≡ get_or order n 0 + get_or sizes i 0
      → Waits order points sizes (UnderOr points n (i + 1)) wl'
  refill_put x wl' put lt e px lx = subst (λ (l : List Candidate). Waits order points sizes (UnderOr points n (i + 1)) l) (sym put)
      (waits_put order points sizes (UnderOr points n i) (UnderOr points n (i + 1)) wl i x w lt
      (⊎_elim (λ l. omega arith) (λ p. let q = p.1 in omega arith))
      (inr (e, omega arith))
      (λ v. ⊎_elim (λ l. inl l) (λ p. let q = p.1 in inr (p.0, omega arith)))
      (λ v. ⊎_elim (λ l. inr (inl l)) (λ p. let q = p.1 in ⊎_elim (λ (d : v < i). inr (inr (p.0, d))) (λ (d : i ≤ v). inl (omega arith)) (cases_lt v i)))
      px (rw e lx))

  pub refill_room : i < length sizes → get_or points i 0 ≡ n → length wl < length sizes
  refill_room lt e =
      let x : Candidate = record { load = get_or order n 0 + get_or sizes i 0; position = i } in
      waits_room order points sizes (UnderOr points n (i + 1)) wl x (refill_put x (wl ++ x ∷ []) refl lt e refl refl)

  pub refill_skip : (get_or points i 0 ≡ n → ⊥) → Waits order points sizes (UnderOr points n (i + 1)) wl
  refill_skip ne =
      waits_same order points order points sizes (UnderOr points n i) (UnderOr points n (i + 1)) wl w
      (λ v h. ⊎_elim (λ l. inl l) (λ p. let q = p.1 in inr (p.0, omega arith)))
      (λ v h. ⊎_elim (λ l. inl l) (λ p. let q = p.1 in
      ⊎_elim (λ (d : v < i). inr (p.0, d)) (λ (d : i ≤ v). let z : v ≡ i = omega arith in absurd (ne (rw z at p.0))) (cases_lt v i)))
      (λ v h a. refl)

-- a candidate that was taken out
module _ (sizes : List ℕ) (m : ℕ) (strip order points : List ℕ) (n : ℕ) (x : Candidate) (wl : List Candidate) (t : Turning sizes m strip order points n x wl) where
  turn_pos : (get_or t.old t.out.place nobody).position ≡ x.position
  turn_pos = ap (λ (c : Candidate). c.position) (out_x t.old wl x t.out)

  turn_ld : (get_or t.old t.out.place nobody).load ≡ x.load
  turn_ld = ap (λ (c : Candidate). c.load) (out_x t.old wl x t.out)

  pub turn_unit : x.position < length sizes
  turn_unit = subst (λ (u : ℕ). u < length sizes) turn_pos (t.state.waits.known t.out.place t.out.inside)

  pub turn_under : get_or points x.position 0 < n
  turn_under = subst (λ (u : ℕ). get_or points u 0 < n) turn_pos (t.state.waits.active t.out.place t.out.inside)

  pub turn_load : x.load ≡ load_of order points sizes x.position
  turn_load = sym turn_ld ∙ (t.state.waits.loads t.out.place t.out.inside ∙ ap (λ (u : ℕ). load_of order points sizes u) turn_pos)

  pub turn_top : get_or order (n - 1) 0 ≤ x.load
  turn_top = subst (λ (l : ℕ). get_or order (n - 1) 0 ≤ l) turn_ld (t.state.later t.out.place t.out.inside)

module _ (sizes : List ℕ) (m : ℕ) (strip order points : List ℕ) (n : ℕ) (x : Candidate) (wl : List Candidate) (t : Turning sizes m strip order points n x wl)
    (same_long : length points ≡ length sizes) where
  point_here : get_or (set points x.position (get_or points x.position 0 + 1)) x.position 0 ≡ get_or points x.position 0 + 1
  point_here = get_or-set_same points x.position (get_or points x.position 0 + 1) 0
      (let u : x.position < length sizes = turn_unit sizes m strip order points n x wl t in omega arith)

  point_there : (v : ℕ) → (v ≡ x.position → ⊥) → get_or (set points x.position (get_or points x.position 0 + 1)) v 0 ≡ get_or points v 0
  point_there v ne = get_or-set_other points x.position v (get_or points x.position 0 + 1) 0 ne

  -- the others wait on
  others : Waits order (set points x.position (get_or points x.position 0 + 1)) sizes (λ v. (get_or points v 0 < n) × (v ≡ x.position → ⊥)) wl
  others = waits_take t.old wl x t.out order points order (set points x.position (get_or points x.position 0 + 1)) sizes
      (Under points n) (λ v. (get_or points v 0 < n) × (v ≡ x.position → ⊥)) t.state.waits
      (λ v a ne. (a, ne)) (λ v h a. a)
      (λ v h a ne. ap (λ (p : ℕ). get_or order p 0 + get_or sizes v 0) (sym (point_there v ne)))

  half_from : (wl' : List Candidate)
      → Waits order (set points x.position (get_or points x.position 0 + 1)) sizes (Under (set points x.position (get_or points x.position 0 + 1)) n) wl'
      → ((k : ℕ) → k < length wl' → x.load ≤ (get_or wl' k nobody).load)
      → Half sizes m strip order (set points x.position (get_or points x.position 0 + 1)) n x wl'
  half_from wl' w later =
      let under : get_or points x.position 0 < n = turn_under sizes m strip order points n x wl t in
      record {
        so_far = t.state.so_far;
        marks = t.state.marks;
        unit = turn_unit sizes m strip order points n x wl t;
        from = get_or points x.position 0;
        moved = point_here;
        before = under;
        load = turn_load sizes m strip order points n x wl t;
        upto = λ u h. ⊎_elim (λ (e : u ≡ x.position). rw e (rw point_here (omega arith))) (λ (ne : u ≡ x.position → ⊥). rw (point_there u ne) (t.state.upto u h)) (cases_eq u x.position);
        done = λ u j h l. ⊎_elim
            (λ (e : u ≡ x.position). ⊎_elim
            (λ (q : j ≡ get_or points x.position 0). inl (e, q))
            (λ (q : j ≡ get_or points x.position 0 → ⊥).
            let l' : j < get_or points x.position 0 + 1 = rw (e, point_here) at l in
            inr (t.state.done u j h (rw e (omega arith))))
            (cases_eq j (get_or points x.position 0)))
            (λ (ne : u ≡ x.position → ⊥). inr (t.state.done u j h (rw (point_there u ne) at l)))
            (cases_eq u x.position);
        waits = w;
        top = turn_top sizes m strip order points n x wl t;
        later = later;
      }

  pub half_idle : n ≤ get_or points x.position 0 + 1 → Half sizes m strip order (set points x.position (get_or points x.position 0 + 1)) n x wl
  half_idle end = half_from wl
      (waits_same order (set points x.position (get_or points x.position 0 + 1)) order (set points x.position (get_or points x.position 0 + 1)) sizes
      (λ v. (get_or points v 0 < n) × (v ≡ x.position → ⊥)) (Under (set points x.position (get_or points x.position 0 + 1)) n) wl others
      (λ v h a. rw (point_there v a.1) a.0)
      (λ v h a. ⊎_elim (λ (e : v ≡ x.position). let b : get_or points x.position 0 + 1 < n = rw (e, point_here) at a in absurd (omega arith))
      (λ (ne : v ≡ x.position → ⊥). (rw (point_there v ne) at a, ne)) (cases_eq v x.position))
      (λ v h a. refl))
      (out_later t.old wl x t.out)

  pub half_put : (y : Candidate) (wl' : List Candidate) → wl' ≡ wl ++ y ∷ [] → get_or points x.position 0 + 1 < n → y.position ≡ x.position
      → y.load ≡ get_or order (get_or points x.position 0 + 1) 0 + get_or sizes x.position 0
      → Half sizes m strip order (set points x.position (get_or points x.position 0 + 1)) n x wl'
  half_put y wl' put more py ly = subst (λ (l : List Candidate). Half sizes m strip order (set points x.position (get_or points x.position 0 + 1)) n x l) (sym put) (half_from (wl ++ y ∷ [])
      (waits_put order (set points x.position (get_or points x.position 0 + 1)) sizes
      (λ v. (get_or points v 0 < n) × (v ≡ x.position → ⊥)) (Under (set points x.position (get_or points x.position 0 + 1)) n) wl x.position y others
      (turn_unit sizes m strip order points n x wl t) (λ a. a.1 refl) (rw point_here more)
      (λ v a. rw (point_there v a.1) a.0)
      (λ v a. ⊎_elim (λ (e : v ≡ x.position). inl e) (λ (ne : v ≡ x.position → ⊥). inr (rw (point_there v ne) at a, ne)) (cases_eq v x.position))
      py (rw point_here ly))
      (λ k h. ⊎_elim (λ p. rw p.1 (out_later t.old wl x t.out k p.0))
      (λ p. rw p.1 (
      let r : get_or order (get_or points x.position 0) 0 ≤ get_or order (get_or points x.position 0 + 1) 0
      = t.state.so_far.rises (get_or points x.position 0) (get_or points x.position 0 + 1) (omega arith) more in
      omega (arith, ly, turn_load sizes m strip order points n x wl t)))
      (places_push wl y k h)))

  pub half_room : get_or points x.position 0 + 1 < n → length wl < length sizes
  half_room more =
      let y : Candidate = record { load = get_or order (get_or points x.position 0 + 1) 0 + get_or sizes x.position 0; position = x.position } in
      waits_room order (set points x.position (get_or points x.position 0 + 1)) sizes (Under (set points x.position (get_or points x.position 0 + 1)) n) wl y
      (half_put y (wl ++ y ∷ []) refl more refl refl).waits
