use Rattle.std.proofs.Common.{ℕ, refl, arith, rules, tests}
use Rattle.std.proofs.lemmas.Iterator.{YieldsList-from_range, cases_from_all}
use Rattle.files.specs.Layout.{file_size}
use Rattle.files.proofs.Ruled.{Led, closed_by_all}
use Rattle.files.proofs.checks.closed.Goals as goal

pub returns : goal.returns
returns c =
    let b = c.args.file.now in
    let Good : ℕ → Type 0 = λ j. Led b c.args.remainder c.args.load (file_size b j) in
    closed_by_all b c.args.remainder c.args.load c.all.result c.others.result c.others.ensures
    (cases_from_all _ _ _ Good (λ j. Good j → ⊥) c.all.ensures.ran (YieldsList-from_range 0 c.others.result c.others.result refl (omega arith)) (λ x q k. search (rules, tests)) (λ x q k. search (rules, tests)))
