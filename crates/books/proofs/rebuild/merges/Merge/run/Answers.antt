use Rattle.std.proofs.Common.{◌≡◌, ℕ, ◌+◌, ◌-◌, ◌*◌, ◌<◌, ◌≤◌, List, length, get_or, sum, ap, ◌∙◌, subst, arith}
use Rattle.std.proofs.ByRecursion.{sum_by_le, All-from_get_or}
use Rattle.waiting.specs.Lists.{room}
use Rattle.books.specs.Leasts.{Leasts}
use Rattle.books.specs.Merging.{Keeps}
use Rattle.books.specs.Pointers.{places_of, sizes_of}
use Rattle.books.proofs.Pointed.{place_units, size_units}
use Rattle.books.proofs.Settles.{closed_from, marked_fits}
use Rattle.books.proofs.Reaches.{leasts_from}
use Rattle.books.proofs.rebuild.merges.Merge.run.Goals as goal

less : (points points' : List ℕ) (units room : ℕ) → length points' ≡ units → ((u : ℕ) → u < units → get_or points' u 0 ≤ room)
    → sum points' ≡ sum points + 1 → units * room - sum points' < units * room - sum points
less points points' units room e h s =
    let b : sum points' ≤ length points' * room = sum_by_le (λ x. x) room points' (All-from_get_or (λ x. x ≤ room) points' 0 (λ i lt. h i (omega arith))) in
    let c : sum points' ≤ units * room = rw e at b in
    omega arith

pub loop-x-smaller : goal.loop-x-smaller
loop-x-smaller c =
    let s = c.turn.ensures.state in
    let k : Keeps c.args.self.now c.loop-x.self = c.loop-x.invariant.keeps in
    let t = c.turn.ensures.keeps in
    let long : length (sizes_of c.turn.new.self.pointers.now) ≡ length (sizes_of c.args.self.now.pointers.now) = ap length (t.sizes ∙ k.sizes) in
    let base : c.turn.new.self.base ≡ c.args.self.now.base = t.base ∙ k.base in
    let units : length c.turn.new.self.pointers.now ≡ length c.args.self.now.pointers.now
    = omega (arith, size_units c.turn.new.self.pointers.now, size_units c.args.self.now.pointers.now) in
    less (places_of c.loop-x.self.pointers.now) (places_of c.turn.new.self.pointers.now) (length c.args.self.now.pointers.now) c.args.self.now.base
    (place_units c.turn.new.self.pointers.now ∙ units)
    (λ u h. omega (arith, base, s.upto u (omega (arith, size_units c.turn.new.self.pointers.now)), marked_fits _ _ _ _ c.turn.new.self.some s.marks))
    c.turn.ensures.steps

pub returns : goal.returns
returns c =
    let k : Keeps c.args.self.now c.loop-x.self = c.loop-x.invariant.keeps in
    let loads : List ℕ = c.loop-x.self.loads.now.list.items in
    subst (λ (m : ℕ). Leasts m (sizes_of c.args.self.now.pointers.now) loads (length loads)) k.base
    (subst (λ (ss : List ℕ). Leasts c.loop-x.self.base ss loads (length loads)) k.sizes
    (leasts_from _ _ _ _ (closed_from _ _ _ _ _ _ _ c.loop-x.invariant.state (ap length c.in_default.ensures.value.0))))
