use Rattle.tables.proofs.Counted.{Counting}
use Rattle.tables.proofs.missing.gaps.Given as goal

abbrev pub invariant-loop-remainder : goal.invariant-loop-remainder
invariant-loop-remainder g l = Counting (g.S.Entries.modulus l.source) (g.S.Entries.entry l.source) l.remainder l.count
