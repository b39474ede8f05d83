use Rattle.std.proofs.Common.{◌+◌, arith}
use borrow.Author.Tests.{ltb-true}
use Rattle.lines.proofs.Languages.{parted}
use Rattle.lines.proofs.Sequences.{breaks_space, breaks_number, spaced}
use Rattle.lines.proofs.tails.Tail.spaced_number.Goals as goal
use Rattle.lines.proofs.tails.Tail.spaced_number.Goals.{in_default-via-then-self-lt1, in_default-via-else-self-lt1+in_default-1}

pub returns-in_default : goal.returns-in_default
returns-in_default c = breaks_space c.args.most c.args.self.now.bytes.now c.args.self.now.column (elim c.in_default.branch [
  | in_default-via-then-self-lt1 w ↦ λ some space. omega (arith, ltb-true)
  | in_default-via-else-self-lt1+in_default-1 w ↦ λ some space. omega arith
])

pub returns-in-Ok : goal.returns-in-Ok
returns-in-Ok c = record {
  end = c.in-Ok.numeral.end + 1;
  number = spaced (parted 32 (omega arith) (omega arith)) c.in-Ok.numeral.value c.in-Ok.numeral.end c.in-Ok.ensures;
  behind = c.past.ensures.bytes;
  at = c.past.ensures.column;
}

pub returns-in-Err : goal.returns-in-Err
returns-in-Err c = breaks_number (parted 32 (omega arith) (omega arith)) c.args.self.now.column c.in-Err.place c.in-Err.ensures
