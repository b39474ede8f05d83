use Rattle.std.proofs.Common.{ℕ, ◌-◌, ◌/◌, ◌%◌, length, sym, refl, ap, ◌∙◌, subst, arith}
use Rattle.tables.specs.Made.{Followed, too_large}
use Rattle.tables.proofs.Loads.{refuses_short, remainder_by, refuses_absent, refuses_below, made}
use Rattle.tables.proofs.making.make.Goals as goal

pub returns-then-load-gt-GREATEST : goal.returns-then-load-gt-GREATEST
returns-then-load-gt-GREATEST g c = (too_large (omega arith), refl)

pub returns-then-numbers-units : goal.returns-then-numbers-units
returns-then-numbers-units g c = (refuses_short (g.S.Showing.row c.args.source.now) c.args.load (length c.args.numbers.now) _ (omega arith) (omega arith) (omega arith), refl)

pub returns-in_default : goal.returns-in_default
returns-in_default g c =
    let s = c.args.source.now in (
      refuses_below (g.S.Showing.row s) (g.S.Entries.entry s) c.units-units.ensures.ordered c.units-units.ensures.table c.args.load (length c.args.numbers.now) (c.args.load % c.from-base.result) (omega arith) (omega arith)
          (remainder_by (g.S.Showing.row s) c.args.load c.units-units.ensures.based c.base.ensures c.from-base.ensures) c.in-Some.entry (sym c.least.ensures ∙ c.in-Some.is) (omega arith),
      refl,
    )

pub returns-in_default-2 : goal.returns-in_default-2
returns-in_default-2 g c =
    let s = c.args.source.now in (
      refuses_absent (g.S.Showing.row s) (g.S.Entries.entry s) c.units-units.ensures.ordered c.units-units.ensures.table c.args.load (length c.args.numbers.now) (c.args.load % c.from-base.result) (omega arith) (omega arith)
          (remainder_by (g.S.Showing.row s) c.args.load c.units-units.ensures.based c.base.ensures c.from-base.ensures) (sym c.least.ensures ∙ c.in_default.is),
      refl,
    )

pub returns : goal.returns
returns g c =
    let s = c.args.source.now in
    made (g.S.Showing.row s) (g.S.Entries.entry s) c.units-units.ensures.ordered c.units-units.ensures.table c.args.load
    (c.args.load % c.from-base.result) c.in-Some.entry c.units-units.result _ c.args.numbers.now c.follow.new.counts
    (remainder_by (g.S.Showing.row s) c.args.load c.units-units.ensures.based c.base.ensures c.from-base.ensures) (sym c.least.ensures ∙ c.in-Some.is) (omega arith) (omega arith)
    c.units-units.ensures.value (omega arith)
    (ap (λ (e : ℕ). (c.args.load - e) / c.from-base.result) c.from-2.ensures ∙ ap (λ (b : ℕ). (c.args.load - c.in-Some.entry) / b) (c.from-base.ensures ∙ c.base.ensures ∙ sym c.units-units.ensures.based))
    (subst (λ (b : ℕ). Followed (g.S.Showing.row s) (c.in-Some.entry % b) c.follow.new.counts) (sym c.units-units.ensures.based) c.follow.ensures.followed) c.follow.ensures.adds c.follow.ensures.first
