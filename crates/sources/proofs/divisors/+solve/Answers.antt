use Rattle.sources.proofs.Euclid.{solved_more}
use Rattle.sources.proofs.divisors.+solve.Goals as goal

pub returns : goal.returns
returns t c = solved_more c.args.base c.args.other c.solve-below.result.divisor c.solve-below.result.times c.requires.0 c.requires.1.1 c.if-rest-eq0.false c.solve-below.ensures
