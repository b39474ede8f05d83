use Rattle.std.proofs.Common.{rules}
use Rattle.files.proofs.Pieces.{bytes_there}
use Rattle.files.proofs.fields.read.Goals as goal

pub returns-then-at-file : goal.returns-then-at-file
returns-then-at-file g c = bytes_there c.args.file.now c.args.at g.row.N c.unwrap.result.now (search rules) (search rules)
