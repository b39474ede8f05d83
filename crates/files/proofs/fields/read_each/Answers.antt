use Rattle.std.proofs.Common.{rules, arith}
use Rattle.files.proofs.Pieces.{bytes_each}
use Rattle.files.proofs.fields.read_each.Goals as goal

pub returns : goal.returns
returns g c = bytes_each c.args.file.now c.args.at g.row.N c.loop-i.bytes (search rules) (λ i low. c.loop-i.invariant.1 i (omega (arith, c.loop-i-test.false)))
