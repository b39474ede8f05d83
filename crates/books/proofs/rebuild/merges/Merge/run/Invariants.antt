use Rattle.std.proofs.Common.{◌-◌, ◌*◌, length, sum}
use Rattle.books.specs.Merging.{IsBetween, Keeps}
use Rattle.books.specs.Pointers.{places_of}
use Rattle.books.proofs.rebuild.merges.Merge.run.Given as goal

abbrev pub invariant-loop-x : goal.invariant-loop-x
invariant-loop-x l = record { keeps : Keeps l.fn.self l.self; state : IsBetween l.self }

abbrev pub decreases-loop-x : goal.decreases-loop-x
decreases-loop-x l = length l.fn.self.pointers.now * l.fn.self.base - sum (places_of l.self.pointers.now)
