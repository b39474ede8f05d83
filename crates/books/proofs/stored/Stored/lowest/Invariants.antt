use Rattle.std.proofs.Common.{◌≡◌, vec_items}
use Rattle.books.proofs.Lows.{Turned}
use Rattle.books.proofs.stored.Stored.lowest.Given as goal

abbrev pub invariant-loop-turn : goal.invariant-loop-turn
invariant-loop-turn l = (l.turn-iterator.size ≡ l.stride) × Turned (vec_items l.self.entries) l.stride l.start l.turn-iterator.rest.now l.low
