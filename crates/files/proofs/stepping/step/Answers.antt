use Rattle.std.proofs.Common.{rules, ◌≡◌, ◌-◌, true, false}
use borrow.Author.Tests.{tests}
use Rattle.std.proofs.lemmas.Iterator.{first_from_Range}
use Rattle.tables.specs.Steps.{steps}
use Rattle.files.specs.Layout.{file_base, file_entry, file_size}
use Rattle.files.proofs.Stepped.{step_found}
use Rattle.files.proofs.stepping.step.Goals as goal

pub returns : goal.returns
returns c =
    let b = c.args.file.now in
    step_found b c.args.remainder c.units.result c.units.ensures.value c.find.result
    (first_from_Range _ _ _ c.find.result
    (λ position. steps (file_base b) (file_entry b) c.args.remainder (file_size b (position - 1)) ≡ true)
    (λ position. steps (file_base b) (file_entry b) c.args.remainder (file_size b (position - 1)) ≡ false)
    c.find.ensures.ran (λ x q k. search (rules, tests)) (λ x q k. search (rules, tests)))
