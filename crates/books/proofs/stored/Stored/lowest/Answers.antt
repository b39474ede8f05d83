use Rattle.std.proofs.Common.{◌≡◌, ℕ, ◌%◌, List, length, Option, vec_items, ◌∙◌, subst, sym, arith}
use Rattle.tables.specs.Tables.{entry_of}
use Rattle.tables.specs.Tests.{Leaves}
use Rattle.books.specs.Rings.{Lowest}
use Rattle.books.specs.declared.stored.Stored.{Stored}
use Rattle.books.proofs.Lows.{Turned, turned_none, turned_more, turned_all}
use Rattle.books.proofs.stored.Stored.lowest.Goals as goal

leaves : (stored : Stored) → Leaves (length (vec_items stored.entries)) (entry_of (vec_items stored.entries))
leaves stored = subst (λ (m : ℕ). Leaves m (entry_of (vec_items stored.entries))) stored.entries.ok.0 stored.leaves

pub loop-turn-init : goal.loop-turn-init
loop-turn-init c = (cc, turned_none (vec_items c.args.self.now.entries) c.args.stride c.args.start c.requires.some _ cc)

pub loop-turn-preserved : goal.loop-turn-preserved
loop-turn-preserved c =
    let stored = c.args.self.now in
    let entries : List (Option _) = vec_items stored.entries in
    let step = c.in-Some.ensures.steps in
    let t : Turned entries c.args.stride c.args.start _ c.loop-turn.low =
    subst (λ (left : List (Option _)). Turned entries c.args.stride c.args.start left c.loop-turn.low) step.1.0 c.loop-turn.invariant.1 in (
      step.0 ∙ c.loop-turn.invariant.0,
      subst (Turned entries c.args.stride c.args.start c.next.new.self.rest.now) (sym c.lower_entry-low.ensures)
          (turned_more entries c.args.stride c.args.start c.requires.some (leaves stored) (subst (λ (m : ℕ). m % c.args.stride ≡ 0) stored.entries.ok.0 c.requires.whole) _ c.in-Some.turn.now c.loop-turn.low t (step.1.1 ∙ c.loop-turn.invariant.0)),
    )

pub returns : goal.returns
returns c =
    let stored = c.args.self.now in
    let entries : List (Option _) = vec_items stored.entries in
    let step = c.in-None.ensures.steps in
    subst (λ (m : ℕ). Lowest m c.args.stride c.args.start (entry_of entries) c.loop-turn.low) (sym stored.entries.ok.0)
    (turned_all entries c.args.stride c.args.start c.requires.some (omega (arith, stored.some, stored.entries.ok.0)) (leaves stored) (subst (λ (m : ℕ). m % c.args.stride ≡ 0) stored.entries.ok.0 c.requires.whole) _ c.loop-turn.low
    c.loop-turn.invariant.1 (omega (arith, step.1, c.loop-turn.invariant.0)))
