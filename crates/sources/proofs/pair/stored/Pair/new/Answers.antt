use Rattle.std.proofs.Common.{refl, inr}
use Rattle.sources.proofs.Euclid.{solved_greatest}
use Rattle.sources.proofs.PairIs.{pair_is}
use Rattle.sources.proofs.pair.stored.Pair.new.Goals as goal

pub returns-then-found-gt1 : goal.returns-then-found-gt1
returns-then-found-gt1 c = inr (inr (inr (record {
  divisor = c.solve-found.result.divisor;
  named = refl;
  base_range = c.in_ok-check_range.ensures;
  other_range = c.in_ok-check_range-2.ensures;
  apart = c.if-other-base.false;
  above = c.if-found-gt1.true;
  greatest = solved_greatest c.args.base c.args.other c.solve-found.result.divisor c.solve-found.result.times c.solve-found.ensures;
})))

pub returns : goal.returns
returns c = pair_is _
