use Rattle.std.proofs.Common.{sym, refl, subst}
use Rattle.std.proofs.lemmas.Result.{err_from_is_err_and}
use Rattle.files.specs.Judged.{Rejects}
use Rattle.files.specs.Making.{refused}
use Rattle.files.proofs.making.make_from.Goals as goal

pub returns-in_err-judge : goal.returns-in_err-judge
returns-in_err-judge c =
    let p = err_from_is_err_and c.from_residual.result c.from_residual.ensures.1 in
    let v = c.in_err-judge.ensures.verdict in
    refused v.1 p.0 p.1 (subst (Rejects c.args.file.now) (sym p.2) v.0) refl
