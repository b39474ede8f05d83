use Rattle.std.proofs.Common.{◌%◌}
use Rattle.std.proofs.lemmas.Bool.{eqb-true, eq-eqb}
use Rattle.books.proofs.Multiples.{multiple_from, multiple_leaves}
use Rattle.books.proofs.sizes.multiple.Goals as goal

pub returns-then-unit-size : goal.returns-then-unit-size
returns-then-unit-size c = (
  (λ t. multiple_from c.args.unit c.args.size c.if-unit-size.true (eqb-true (c.args.size % c.args.unit) 0 t)),
  λ m. eq-eqb (c.args.size % c.args.unit) 0 (multiple_leaves c.args.unit c.args.size m),
)
