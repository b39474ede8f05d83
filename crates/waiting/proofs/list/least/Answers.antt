use Rattle.std.proofs.Common.{sym, rules}
use Rattle.std.proofs.lemmas.List.MinMax.{IsFirstBest-keeps, IsFirstBest-takes}
use Rattle.waiting.proofs.list.least.Goals as goal
use Rattle.waiting.proofs.list.least.Goals.{then-precedes, else-precedes}

pub loop-i-preserved : goal.loop-i-preserved
loop-i-preserved g c = elim c.if-precedes.branch [
  | then-precedes w ↦ rw w.best-is (IsFirstBest-takes g.met.T.Queued.ranks c.args.slots.now c.loop-i.i c.loop-i.best c.index-slots-i.result c.index-slots-best.result c.loop-i.invariant (search rules) c.index-slots-i.is c.index-slots-best.is (sym w.if-precedes.ensures))
  | else-precedes w ↦ rw w.best-is (IsFirstBest-keeps g.met.T.Queued.ranks c.args.slots.now c.loop-i.i c.loop-i.best c.index-slots-i.result c.index-slots-best.result c.loop-i.invariant (search rules) c.index-slots-i.is c.index-slots-best.is (sym w.if-precedes.ensures))
]
