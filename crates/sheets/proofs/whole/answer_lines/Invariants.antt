use Rattle.std.proofs.Common.{length, string_bytes}
use Rattle.sheets.specs.Sheets.{standing}
use Rattle.sheets.specs.Splitting.{lines_of}
use Rattle.sheets.proofs.Lines.{Sofar}
use Rattle.sheets.proofs.whole.answer_lines.Given as goal

abbrev pub invariant-loop-index : goal.invariant-loop-index
invariant-loop-index l = Sofar (lines_of l.input) (length l.yielded) (standing l.sheet) (string_bytes l.out)
