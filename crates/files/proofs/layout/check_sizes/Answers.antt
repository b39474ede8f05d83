use Rattle.std.proofs.Common.{arith, ◌≡◌, ℕ, suc, ◌+◌, ◌*◌, subst}
use Rattle.std.proofs.lemmas.Result.{err_from_is_err_and}
use Rattle.files.proofs.Kept.{fault_field}
use Rattle.files.specs.Layout.{Kept}
use Rattle.files.proofs.layout.check_sizes.Goals as goal

pub returns-in_err-check_field : goal.returns-in_err-check_field
returns-in_err-check_field c =
    let b = c.args.file.now in
    let p = err_from_is_err_and c.from_residual.result c.from_residual.ensures.1 in
    let place : ℕ = c.loop-place.place in
    let four : 4 + place ≡ suc (suc (suc (suc place))) = omega arith in
    rw (p.1, p.2)
    (fault_field b (suc (suc (suc (suc place)))) (8 + 2 * place) (10 + 2 * place) _ _ (omega arith) (subst (Kept b) four c.loop-place.invariant)
    (omega arith) (omega arith) c.size_fits.ensures c.in_err-check_field.ensures)
