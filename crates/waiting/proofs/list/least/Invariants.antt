use Rattle.std.specs.List.{IsFirstBest}
use Rattle.waiting.proofs.list.least.Given as goal

abbrev pub invariant-loop-i : goal.invariant-loop-i
invariant-loop-i g l = IsFirstBest g.T.Queued.before l.slots l.i l.best
