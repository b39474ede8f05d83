use Rattle.tables.proofs.Greatest.{Highest}
use Rattle.tables.proofs.missing.largest.Given as goal

abbrev pub invariant-loop-remainder : goal.invariant-loop-remainder
invariant-loop-remainder g l = Highest (g.S.Entries.entry l.source) l.remainder l.highest
