use Rattle.std.proofs.Common.{ℕ, rules, tests}
use Rattle.std.proofs.lemmas.Iterator.{first_from_Range}
use Rattle.tables.specs.Rules.{Rule}
use Rattle.files.specs.Layout.{file_base, file_entry, file_others}
use Rattle.files.proofs.Ruled.{rules_by_find}
use Rattle.files.proofs.checks.check_entries.Goals as goal

pub returns : goal.returns
returns c =
    let b = c.args.file.now in
    let Holds : ℕ → Type 0 = Rule (file_base b) (file_others b) (file_entry b) in
    rules_by_find (file_base b) (file_others b) (file_entry b) c.find.result c.base.result c.map_or.result c.base.ensures
    (first_from_Range _ _ _ c.find.result (λ r. Holds r → ⊥) Holds c.find.ensures.ran (λ x q k. search (rules, tests)) (λ x q k. search (rules, tests))) c.map_or.ensures
