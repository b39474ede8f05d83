use Rattle.std.proofs.Common.{arith}
use Rattle.books.proofs.Pointed.{start_sizes, start_first}
use Rattle.books.proofs.rebuild.pointers.start.Goals as goal

pub returns : goal.returns
returns c = record {
  sizes = start_sizes c.loop-i.pointers c.args.sizes.now (omega (arith, c.loop-i.auto.pointers)) (λ k d h. c.loop-i.invariant k d (omega (arith, c.loop-i.auto.pointers)));
  first = start_first c.loop-i.pointers c.args.sizes.now (omega (arith, c.loop-i.auto.pointers)) (λ k d h. c.loop-i.invariant k d (omega (arith, c.loop-i.auto.pointers)));
}
