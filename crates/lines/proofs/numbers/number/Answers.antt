use Rattle.std.proofs.Common.{◌≡◌, length, subst, arith}
use Rattle.std.proofs.lemmas.Result.{err_from_is_err_and}
use Rattle.lines.specs.Numbers.{Numberless}
use Rattle.lines.proofs.Figures.{read_none, read_number, read_more, read_over, refused_at, numberless_ended}
use Rattle.lines.proofs.numbers.number.Goals as goal

pub returns-in_err-ok_or : goal.returns-in_err-ok_or
returns-in_err-ok_or c =
    let p = err_from_is_err_and c.from_residual.result c.from_residual.ensures.1 in
    let none = c.in_err-ok_or.ensures.ok_part in
    let e = refused_at none c.in_err-ok_or.ensures.value in
    let bare = c.if-not-is_ascii_digit.ensures.cases in
    rw (p.1, p.2, e) (read_none c.loop-i.invariant (omega arith) c.loop-i-test.true none (λ d. let low = d.0 in let high = d.1 in omega arith))

pub returns-then-not-is_ascii_digit : goal.returns-then-not-is_ascii_digit
returns-then-not-is_ascii_digit c =
    let bare = c.if-not-is_ascii_digit.ensures.cases in
    read_number c.loop-i.invariant (omega arith) c.loop-i-test.true _ c.in_ok-ok_or.ensures.ok_part (λ d. let low = d.0 in let high = d.1 in omega arith)

pub returns-in_err-ok_or-2 : goal.returns-in_err-ok_or-2
returns-in_err-ok_or-2 c =
    let p = err_from_is_err_and c.from_residual-in_err-ok_or-2.result c.from_residual-in_err-ok_or-2.ensures.1 in
    let none = c.in_err-ok_or-2.ensures.ok_part in
    let e = refused_at none c.in_err-ok_or-2.ensures.value in
    let digit = c.if-not-is_ascii_digit.ensures.cases in
    let over = rw none at c.grown.ensures in
    rw (p.1, p.2, e) (read_over c.loop-i.invariant (omega arith) c.loop-i-test.true (omega arith, omega arith) over)

pub loop-i-preserved : goal.loop-i-preserved
loop-i-preserved c =
    let digit = c.if-not-is_ascii_digit.ensures.cases in
    let grown = rw c.in_ok-ok_or-2.ensures.ok_part at c.grown.ensures in
    read_more c.loop-i.invariant (omega arith) c.loop-i-test.true (omega arith, omega arith) _ grown.0 grown.1

pub returns : goal.returns
returns c =
    let last : c.loop-i.i ≡ length c.args.bytes.now = omega arith in
    subst (Numberless c.args.most c.args.bytes.now) last (numberless_ended c.loop-i.invariant.so (omega arith) last)
