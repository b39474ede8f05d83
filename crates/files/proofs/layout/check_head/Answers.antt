use Rattle.std.proofs.Common.{rules, tests, refl, arith}
use Rattle.std.proofs.lemmas.Result.{err_from_is_err_and}
use Rattle.files.proofs.Kept.{checked_field, fault_field, kept_field, kept_none}
use Rattle.files.specs.Layout.{Kept}
use Rattle.files.proofs.layout.check_head.Goals as goal

pub returns-in_err-check_field : goal.returns-in_err-check_field
returns-in_err-check_field c =
    let b = c.args.file.now in
    let p = err_from_is_err_and c.from_residual.result c.from_residual.ensures.1 in
    rw (p.1, p.2) (fault_field b 0 0 3 _ _ (omega arith) (kept_none b) refl refl c.lettered.ensures c.in_err-check_field.ensures)

pub returns-in_err-check_field-2 : goal.returns-in_err-check_field-2
returns-in_err-check_field-2 c =
    let b = c.args.file.now in
    let p = err_from_is_err_and c.from_residual-in_err-check_field-2.result c.from_residual-in_err-check_field-2.ensures.1 in
    let one : Kept b 1 = kept_field b 0 3 _ (kept_none b) refl c.lettered.ensures c.in_ok-check_field.ensures in
    rw (p.1, p.2) (fault_field b 1 3 5 _ _ (omega arith) one refl refl (search (rules, tests)) c.in_err-check_field-2.ensures)

pub returns-in_err-check_field-3 : goal.returns-in_err-check_field-3
returns-in_err-check_field-3 c =
    let b = c.args.file.now in
    let p = err_from_is_err_and c.from_residual-in_err-check_field-3.result c.from_residual-in_err-check_field-3.ensures.1 in
    let one : Kept b 1 = kept_field b 0 3 _ (kept_none b) refl c.lettered.ensures c.in_ok-check_field.ensures in
    let two : Kept b 2 = kept_field b 1 5 _ one refl (search (rules, tests)) c.in_ok-check_field-2.ensures in
    rw (p.1, p.2) (fault_field b 2 5 6 _ _ (omega arith) two refl refl (search (rules, tests)) c.in_err-check_field-3.ensures)

pub returns : goal.returns
returns c =
    let b = c.args.file.now in
    let one : Kept b 1 = kept_field b 0 3 _ (kept_none b) refl c.lettered.ensures c.in_ok-check_field.ensures in
    let two : Kept b 2 = kept_field b 1 5 _ one refl (search (rules, tests)) c.in_ok-check_field-2.ensures in
    let three : Kept b 3 = kept_field b 2 6 _ two refl (search (rules, tests)) c.in_ok-check_field-3.ensures in
    checked_field b 3 6 8 _ c.check_field-4.result (omega (arith, (three 2 (omega arith)).1.0)) three refl refl (search (rules, tests)) c.check_field-4.ensures
