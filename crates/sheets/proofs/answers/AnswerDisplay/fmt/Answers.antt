use Rattle.std.proofs.Common.{rules}
use Rattle.std.proofs.Output.{has_written_append, has_written_of_eq}
use Rattle.sheets.proofs.Printing.{numbers_more}
use Rattle.sheets.proofs.answers.AnswerDisplay.fmt.Goals as goal

pub loop-number-preserved : goal.loop-number-preserved
loop-number-preserved g c = λ plain.
    has_written_of_eq _ _ _ _ _ (numbers_more _ _ c.loop-number-test.true) (has_written_append _ _ _ _ _ _ (c.loop-number.invariant plain) (search rules))
