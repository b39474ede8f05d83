use Rattle.sources.proofs.divisors.+solve.Given as goal

abbrev pub decreases-solve : goal.decreases-solve
decreases-solve l = l.base
