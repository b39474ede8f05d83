use Rattle.std.proofs.Common.{◌≡◌, ◌+◌, ◌/◌, ◌%◌, vec_items, vec_len, ap, subst, arith}
use Rattle.tables.specs.Tables.{entry_of}
use Rattle.books.proofs.Mods.{ring_some}
use Rattle.books.proofs.Walks.{walk_step, walk_round}
use Rattle.books.proofs.stored.Stored.walk.Goals as goal

pub loop-step-preserved : goal.loop-step-preserved
loop-step-preserved c =
    let old = c.args.self.now in
    walk_step (vec_len old.entries) c.args.unit c.args.stride c.args.low c.loop-step._step
    (entry_of (vec_items old.entries)) (vec_items c.loop-step.self.entries) c.loop-step.load old.some c.requires.common c.loop-step.invariant
    _ _ _ (ap (λ m. (c.loop-step.load + c.args.unit) % m) c.base-base.ensures) c.least.ensures c.lower_load-load.ensures

pub invariant_of-self-clause-leaves : goal.invariant_of-self-clause-leaves
invariant_of-self-clause-leaves c =
    let old = c.args.self.now in
    let w = walk_step (vec_len old.entries) c.args.unit c.args.stride c.args.low c.loop-step._step
    (entry_of (vec_items old.entries)) (vec_items c.loop-step.self.entries) c.loop-step.load old.some c.requires.common c.loop-step.invariant
    _ _ _ (ap (λ m. (c.loop-step.load + c.args.unit) % m) c.base-base.ensures) c.least.ensures c.lower_load-load.ensures in
    let long : vec_len old.entries ≡ vec_len c.loop-step.self.entries = omega (arith, c.loop-step.invariant.size, c.loop-step.self.entries.ok.0) in
    λ r e p. subst (λ m. e % m ≡ r) long (w.leaves r e p)

pub returns-clause-round : goal.returns-clause-round
returns-clause-round c =
    let old = c.args.self.now in
    walk_round (vec_len old.entries) c.args.unit c.args.stride c.args.low c.loop-step._step
    (entry_of (vec_items old.entries)) (vec_items c.loop-step.self.entries) c.loop-step.load old.some c.requires.common c.loop-step.invariant
    (omega (arith, ap (λ m. m / c.args.stride) c.base-base.ensures, ring_some (vec_len old.entries) c.args.unit c.args.stride old.some c.requires.common))
    c.requires.lowest.0
