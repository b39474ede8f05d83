use Rattle.tables.proofs.Follows.{Following}
use Rattle.tables.proofs.making.follow.Given as goal

abbrev pub invariant-loop-position : goal.invariant-loop-position
invariant-loop-position g l = Following (g.S.Showing.row l.source) (g.S.Entries.entry l.source) l.initial.rest l.counts l.rest

abbrev pub decreases-loop-position : goal.decreases-loop-position
decreases-loop-position g l = l.rest
