use Rattle.std.proofs.lemmas.Result.{err_from_is_err_and}
use Rattle.sheets.specs.Lines.{unread, carried}
use Rattle.sheets.proofs.sheet.Sheet.answer.Goals as goal

pub returns-in_err-line : goal.returns-in_err-line
returns-in_err-line c =
    let p = err_from_is_err_and c.from_residual.result c.from_residual.ensures.1 in
    rw (p.1, p.2) (λ _. unread c.in_err-line.field-0.0 c.in_err-line.ensures)

pub returns : goal.returns
returns c = λ kept. carried c.in_ok-line.line c.carry_out.result _ c.in_ok-line.ensures (c.carry_out.ensures kept)
