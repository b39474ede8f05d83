use Rattle.std.proofs.Common.{◌≡◌, ℕ, ◌%◌, is_some, sym, refl, ap, ◌∙◌, subst}
use Rattle.files.proofs.Ruled.{rule_by_step}
use Rattle.files.proofs.checks.holds.Goals as goal

pub returns-else-remainder-eq0 : goal.returns-else-remainder-eq0
returns-else-remainder-eq0 c =
    rule_by_step _ _ _ _ _ c.requires (sym c.in-Some.ensures) _
    (subst (λ (k : ℕ). c.in-Some.load % k ≡ c.args.remainder) c.base.ensures c.if-load-base.false)
    (c.if-not-closed.ensures.0 refl) c.if-remainder-eq0.false
    (c.is_some.ensures ∙ ap is_some c.step.ensures)
