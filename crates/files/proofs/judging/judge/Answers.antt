use Rattle.std.proofs.Common.{rules}
use Rattle.std.proofs.lemmas.Result.{err_from_is_err_and}
use Rattle.files.specs.Judged.{untrue}
use Rattle.files.specs.Rounds.{WrittenAgain}
use Rattle.files.proofs.Again.{written_again}
use Rattle.files.proofs.Verdict.{unformed, first_fault, formed, false_untrue, rules_true}
use Rattle.files.proofs.judging.judge.Goals as goal

pub returns-in_err-map_err-clause-verdict : goal.returns-in_err-map_err-clause-verdict
returns-in_err-map_err-clause-verdict c =
    let p = err_from_is_err_and c.from_residual.result c.from_residual.ensures.1 in
    rw (p.1, p.2) (unformed c.args.file.now c.check_layout.result c.map_err.result c.in_err-map_err.field-0.0 c.check_layout.ensures c.map_err.ensures.cases c.in_err-map_err.was)

pub returns-in-Err-clause-verdict : goal.returns-in-Err-clause-verdict
returns-in-Err-clause-verdict c =
    let b = c.args.file.now in
    let f = formed b c.check_layout.result c.map_err.result c.in_ok-map_err.field-0 c.check_layout.ensures c.map_err.ensures.cases c.in_ok-map_err.was in
    (untrue c.in-Err.remainder f.0 c.in-Err.ensures, false_untrue b c.in-Err.remainder c.in-Err.ensures)

pub returns-clause-verdict : goal.returns-clause-verdict
returns-clause-verdict c =
    let b = c.args.file.now in
    let f = formed b c.check_layout.result c.map_err.result c.in_ok-map_err.field-0 c.check_layout.ensures c.map_err.ensures.cases c.in_ok-map_err.was in
    rules_true b f.0 c.in_default.ensures

pub returns-clause-again : goal.returns-clause-again
returns-clause-again c =
    let b = c.args.file.now in
    let f = formed b c.check_layout.result c.map_err.result c.in_ok-map_err.field-0 c.check_layout.ensures c.map_err.ensures.cases c.in_ok-map_err.was in
    let again : WrittenAgain b = written_again b f.1 f.0 in search (rules, again)

pub returns-in_err-map_err-clause-fault : goal.returns-in_err-map_err-clause-fault
returns-in_err-map_err-clause-fault c = first_fault c.args.file.now c.check_layout.result c.check_layout.ensures
