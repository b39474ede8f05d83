use Rattle.std.proofs.Common.{◌≡◌, ℕ, ◌+◌, ◌-◌, ◌*◌, ◌%◌, ◌<◌, ◌≤◌, List, [], ◌∷◌, ◌++◌, length, get_or, set, sum, sym, refl, ap, ◌∙◌, subst, mod-lt, arith}
use Rattle.std.proofs.lemmas.List.Sums.{sum_by-set}
use Rattle.std.proofs.lemmas.List.{get_or_default, length-set, set-get_or}
use Rattle.waiting.specs.Lists.{room, waits}
use Rattle.books.specs.declared.rebuild.candidates.Candidate.{Candidate}
use Rattle.books.specs.Merges.{Half, State, Waits, Under}
use Rattle.books.specs.Pointers.{places_of, sizes_of}
use Rattle.books.specs.Units.{Small}
use Rattle.books.proofs.Pointed.{no_one, moved, moved_places, moved_sizes, place_at, place_units, size_at, size_units}
use Rattle.books.proofs.Puts.{put_fits, put_lands}
use Rattle.books.proofs.Served.{half_put, half_idle, half_room, turn_unit}
use Rattle.books.proofs.Settles.{marked_fits, marked_spare, settle_old, settle_new, waits_grown, new_bound, new_load, one_more}
use Rattle.books.proofs.rebuild.merges.Merge.turn.Goals as goal
use Rattle.books.proofs.rebuild.merges.Merge.turn.Goals.{in-Some, in_default, Joined-get, In-Some}

sum_moved : (points : List ℕ) (i : ℕ) → i < length points → sum (set points i (get_or points i 0 + 1)) ≡ sum points + 1
sum_moved points i h = omega (arith, sum_by-set (λ x. x) points i (get_or points i 0 + 1) 0 h)

-- what a read of the loads found
found : (loads read : List ℕ) (k x : ℕ) → read ≡ loads → k < length read → x ≡ get_or read k x → (k < length loads) × (x ≡ get_or loads k 0)
found loads read k x same h is =
    let long : length read ≡ length loads = ap length same in
    (omega arith, is ∙ (ap (λ (l : List ℕ). get_or l k x) same ∙ get_or_default loads k x 0 (omega arith)))

pub unwrap-requires : goal.unwrap-requires
unwrap-requires c =
    let ps = c.args.self.now.pointers.now in
    let i = c.args.x.position in
    let l = c.in-Some.ensures.lookup in
    let f = found c.args.self.now.loads.now.list.items c.as_slice.result.now _ c.in-Some.field-0.now c.as_slice.ensures l.3.0 l.1 in
    put_fits _ _ _ _ _
    (omega (
      arith,
      c.args.self.now.places,
      size_units ps,
      half_room _ _ _ _ _ _ _ _ c.requires (place_units ps ∙ sym (size_units ps)) (omega (arith, f.0, place_at ps i)),
    )) c.put.ensures.value

pub overflow_add-load : goal.overflow_add-load
overflow_add-load c =
    let ps = c.args.self.now.pointers.now in
    let i = c.args.x.position in
    let l = c.in-Some.ensures.lookup in
    let f = found c.args.self.now.loads.now.list.items c.as_slice.result.now _ c.in-Some.field-0.now c.as_slice.ensures l.3.0 l.1 in
    let s = c.requires.state in
    omega (
      arith,
      f.1,
      s.so_far.bound ((get_or ps i no_one).at + 1) f.0,
      marked_fits _ _ _ _ c.args.self.now.some s.marks,
      c.args.self.now.few,
      c.args.self.now.small i (turn_unit _ _ _ _ _ _ _ _ c.requires),
      size_at ps i,
      c.from.ensures,
      f.0,
    )

-- the pointer has moved, whichever way
move : (c : Joined-get) → c.match-get.pointers ≡ moved c.args.self.now.pointers.now c.args.x.position
move c = elim c.match-get.branch [ in-Some w ↦ w.pointers-is | in_default w ↦ w.pointers-is ]

sizes : (c : Joined-get) → sizes_of c.match-get.pointers ≡ sizes_of c.args.self.now.pointers.now
sizes c = ap sizes_of (move c) ∙ moved_sizes c.args.self.now.pointers.now c.args.x.position

places : (c : Joined-get) → places_of c.match-get.pointers ≡ set (places_of c.args.self.now.pointers.now) c.args.x.position (get_or (places_of c.args.self.now.pointers.now) c.args.x.position 0 + 1)
places c = ap places_of (move c) ∙ moved_places c.args.self.now.pointers.now c.args.x.position

-- and the next candidate of its unit waits, where there is one
ready : (c : Joined-get)
    → Half (sizes_of c.match-get.pointers) c.args.self.now.base c.args.self.now.strip.now c.args.self.now.loads.now.list.items (places_of c.match-get.pointers)
    (length c.args.self.now.loads.now.list.items) c.args.x (waits c.match-get.waiting)
    × (room c.match-get.waiting ≡ room c.args.self.now.waiting)
ready c =
    let ps = c.args.self.now.pointers.now in
    let i = c.args.x.position in
    let at : get_or (places_of ps) i 0 ≡ _ = place_at ps i in
    let same_long : length (places_of ps) ≡ length (sizes_of ps) = place_units ps ∙ sym (size_units ps) in
    let there = λ (wl : List Candidate)
    (h : Half (sizes_of ps) c.args.self.now.base c.args.self.now.strip.now c.args.self.now.loads.now.list.items (set (places_of ps) i (get_or (places_of ps) i 0 + 1)) (length c.args.self.now.loads.now.list.items) c.args.x wl).
    subst (λ (ss : List ℕ). Half ss c.args.self.now.base c.args.self.now.strip.now c.args.self.now.loads.now.list.items (places_of c.match-get.pointers) (length c.args.self.now.loads.now.list.items) c.args.x wl) (sym (sizes c))
    (subst (λ (pts : List ℕ). Half (sizes_of ps) c.args.self.now.base c.args.self.now.strip.now c.args.self.now.loads.now.list.items pts (length c.args.self.now.loads.now.list.items) c.args.x wl) (sym (places c)) h) in
    elim c.match-get.branch [
      | in-Some w ↦
          let l = w.in-Some.ensures.lookup in
          let f = found c.args.self.now.loads.now.list.items c.as_slice.result.now _ w.in-Some.field-0.now c.as_slice.ensures l.3.0 l.1 in
          let more : get_or (places_of ps) i 0 + 1 < length c.args.self.now.loads.now.list.items = omega (arith, f.0, at) in
          let free : length (waits c.args.self.now.waiting) < room c.args.self.now.waiting
          = omega (arith, c.args.self.now.places, size_units ps, half_room _ _ _ _ _ _ _ _ c.requires same_long more) in
          let y : Candidate = record { load = w.in-Some.field-0.now + w.from.result; position = i } in
          let from : w.in-Some.field-0.now ≡ get_or c.args.self.now.loads.now.list.items (get_or (places_of ps) i 0 + 1) 0
          = f.1 ∙ ap (λ (k : ℕ). get_or c.args.self.now.loads.now.list.items (k + 1) 0) (sym at) in
          rw w.waiting-is (
            there _ (half_put _ _ _ _ _ _ _ _ c.requires same_long y _ (put_lands _ _ _ _ w.put.result free w.put.ensures.value) more refl
                (omega (arith, from, w.from.ensures, size_at ps i))),
            w.put.ensures.size,
          )
      | in_default w ↦ rw w.waiting-is (
        there _ (half_idle _ _ _ _ _ _ _ _ c.requires same_long
            (let l = w.in_default.ensures.lookup in let long : length c.as_slice.result.now ≡ length c.args.self.now.loads.now.list.items = ap length c.as_slice.ensures in omega (arith, at, l.3))),
        refl,
      )
    ]

-- an unmarked remainder leaves room for its load
unfinished : (c : Joined-get) → (get_or c.args.self.now.strip.now (c.args.x.load % c.args.self.now.base) 0 ≡ 1 → ⊥) → length c.args.self.now.loads.now.list.items < c.args.self.now.base
unfinished c fresh =
    marked_spare c.args.self.now.base c.args.self.now.strip.now c.args.self.now.loads.now.list.items (length c.args.self.now.loads.now.list.items) (c.args.x.load % c.args.self.now.base)
    c.args.self.now.some (ready c).0.marks (mod-lt c.args.x.load c.args.self.now.some) fresh

-- the pointer of one unit has moved by one
step : (c : Joined-get) → sum (places_of c.match-get.pointers) ≡ sum (places_of c.args.self.now.pointers.now) + 1
step c =
    ap sum (places c)
    ∙ sum_moved (places_of c.args.self.now.pointers.now) c.args.x.position
    (omega (arith, place_units c.args.self.now.pointers.now, size_units c.args.self.now.pointers.now, turn_unit _ _ _ _ _ _ _ _ c.requires))

small : (c : Joined-get) → get_or (sizes_of c.match-get.pointers) c.args.x.position 0 ≤ 65535
small c =
    let i = c.args.x.position in
    subst (λ (ss : List ℕ). get_or ss i 0 ≤ 65535) (sym (sizes c)) (c.args.self.now.small i (turn_unit _ _ _ _ _ _ _ _ c.requires))

pub returns-then-mark-eq1 : goal.returns-then-mark-eq1
returns-then-mark-eq1 c =
    let j = (goal.at.returns-then-mark-eq1 c).Joined-get in
    let p = ready j in
    let r : ℕ = c.args.x.load % c.args.self.now.base in
    record {
      state =
          subst (λ (st : List ℕ). State (sizes_of c.match-get.pointers) c.args.self.now.base st c.args.self.now.loads.now.list.items (places_of c.match-get.pointers) (length c.args.self.now.loads.now.list.items) (waits c.match-get.waiting))
          (sym (set-get_or c.args.self.now.strip.now r 0)) (settle_old _ _ _ _ _ _ _ _ p.0 c.args.self.now.some c.if-mark-eq1.true);
      keeps = record { base = refl; sizes = sizes j };
      steps = step j;
    }

pub push-requires : goal.push-requires
push-requires c = omega (arith, c.args.self.now.few, unfinished (goal.at.push-requires c).Joined-get c.if-mark-eq1.false)

pub refill-requires : goal.refill-requires
refill-requires c =
    let j = (goal.at.refill-requires c).Joined-get in
    let p = ready j in
    let old = c.args.self.now.loads.now.list.items in
    let grown : List ℕ = c.as_slice-2.result.now in
    let n : ℕ = length old in
    let less : n < c.args.self.now.base = unfinished j c.if-mark-eq1.false in
    let is : grown ≡ old ++ c.args.x.load ∷ [] = c.as_slice-2.ensures ∙ c.push.ensures in
    let long : c.args.self.now.base ≤ length c.args.self.now.strip.now = omega (arith, c.args.self.now.marks) in
    let more : length grown ≡ n + 1 = one_more _ _ _ _ _ _ _ _ p.0 c.args.self.now.some grown is refl long c.if-mark-eq1.false (small j) in
    let last : length grown - 1 ≡ n = omega arith in
    let bound : c.args.x.load ≤ 65535 * n = new_bound _ _ _ _ _ _ _ _ p.0 c.args.self.now.some grown is refl long c.if-mark-eq1.false (small j) in
    let newest : get_or grown (length grown - 1) 0 ≡ c.args.x.load
    = ap (λ (k : ℕ). get_or grown k 0) last ∙ new_load _ _ _ _ _ _ _ _ p.0 c.args.self.now.some grown is refl long c.if-mark-eq1.false (small j) in
    record {
      some = omega arith;
      low = omega (arith, c.args.self.now.few);
      places = omega (arith, p.1, c.args.self.now.places, c.match-get.auto.pointers);
      waits =
          subst (λ (k : ℕ). Waits grown (places_of c.match-get.pointers) (sizes_of c.match-get.pointers) (Under (places_of c.match-get.pointers) k) (waits c.match-get.waiting)) (sym last)
          (waits_grown _ _ _ _ _ _ _ _ p.0 c.args.self.now.some grown is refl long c.if-mark-eq1.false (small j));
    }

pub returns : goal.returns
returns c =
    let j = (goal.at.returns c).Joined-get in
    let p = ready j in
    let old = c.args.self.now.loads.now.list.items in
    let grown : List ℕ = c.push.new.self.list.items in
    let n : ℕ = length old in
    let long : c.args.self.now.base ≤ length c.args.self.now.strip.now = omega (arith, c.args.self.now.marks) in
    let more : length grown ≡ n + 1 = one_more _ _ _ _ _ _ _ _ p.0 c.args.self.now.some grown c.push.ensures refl long c.if-mark-eq1.false (small j) in
    let served : Waits grown (places_of c.match-get.pointers) (sizes_of c.match-get.pointers) (Under (places_of c.match-get.pointers) (n + 1)) (waits c.refill.new.waiting)
    = subst (λ (k : ℕ). Waits grown (places_of c.match-get.pointers) (sizes_of c.match-get.pointers) (Under (places_of c.match-get.pointers) k) (waits c.refill.new.waiting)) more
    (subst (λ (l : List ℕ). Waits l (places_of c.match-get.pointers) (sizes_of c.match-get.pointers) (Under (places_of c.match-get.pointers) (length l)) (waits c.refill.new.waiting))
    c.as_slice-2.ensures c.refill.ensures.waits) in
    record {
      state =
          subst (λ (k : ℕ). State (sizes_of c.match-get.pointers) c.args.self.now.base (set c.args.self.now.strip.now (c.args.x.load % c.args.self.now.base) 1) grown (places_of c.match-get.pointers) k (waits c.refill.new.waiting))
          (sym more) (settle_new _ _ _ _ _ _ _ _ p.0 c.args.self.now.some grown c.push.ensures refl long c.if-mark-eq1.false (small j) _ served);
      keeps = record { base = refl; sizes = sizes j };
      steps = step j;
    }

small_kept : (c : Joined-get) → Small (sizes_of c.match-get.pointers)
small_kept c = subst Small (sym (sizes c)) c.args.self.now.small

pub invariant_of-self-clause-places : goal.invariant_of-self-clause-places
invariant_of-self-clause-places c =
    let j = (goal.at.invariant_of-self-clause-places c).Joined-get in
    omega (arith, c.args.self.now.places, (ready j).1, j.match-get.auto.pointers)

pub invariant_of-self-clause-small : goal.invariant_of-self-clause-small
invariant_of-self-clause-small c = small_kept (goal.at.invariant_of-self-clause-small c).Joined-get

pub invariant_of-self-2-clause-places : goal.invariant_of-self-2-clause-places
invariant_of-self-2-clause-places c =
    let j = (goal.at.invariant_of-self-2-clause-places c).Joined-get in
    omega (arith, c.args.self.now.places, (ready j).1, j.match-get.auto.pointers, c.refill.ensures.size)

pub invariant_of-self-2-clause-small : goal.invariant_of-self-2-clause-small
invariant_of-self-2-clause-small c = small_kept (goal.at.invariant_of-self-2-clause-small c).Joined-get

pub invariant_of-self-clause-marks : goal.invariant_of-self-clause-marks
invariant_of-self-clause-marks c = c.args.self.now.marks ∙ sym (length-set c.args.self.now.strip.now (c.args.x.load % c.args.self.now.base) _)

pub invariant_of-self-2-clause-marks : goal.invariant_of-self-2-clause-marks
invariant_of-self-2-clause-marks c = c.args.self.now.marks ∙ sym (length-set c.args.self.now.strip.now (c.args.x.load % c.args.self.now.base) 1)
