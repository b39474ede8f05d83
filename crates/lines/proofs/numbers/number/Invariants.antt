use Rattle.lines.proofs.Figures.{Read}
use Rattle.lines.proofs.numbers.number.Given as goal

abbrev pub invariant-loop-i : goal.invariant-loop-i
invariant-loop-i l = Read l.most l.bytes l.i l.value
