use Rattle.std.proofs.Common.{string_bytes}
use Rattle.sheets.proofs.Printing.{adds_refused}
use Rattle.sheets.proofs.answers.print_line.Goals as goal

pub returns-in_ok-writeln-in-Err : goal.returns-in_ok-writeln-in-Err
returns-in_ok-writeln-in-Err c =
    rw c.in-Err.is (adds_refused c.args.line c.in-Err.refusal c.in_ok-refused-in-Err.refused.number c.in_ok-refused-in-Err.refused.place (string_bytes c.args.out.now) _
    c.in_ok-refused-in-Err.ensures.0 c.in_ok-refused-in-Err.ensures.1 c.in_ok-writeln-in-Err.ensures.bytes)
