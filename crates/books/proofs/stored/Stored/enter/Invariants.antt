use Rattle.std.proofs.Common.{◌≡◌, vec_items, vec_len}
use Rattle.books.specs.Leasts.{Entered}
use Rattle.books.proofs.stored.Stored.enter.Given as goal

abbrev pub invariant-loop-load : goal.invariant-loop-load
invariant-loop-load l = (vec_len l.self.entries ≡ l.base) × Entered l.base l.loads l.load-index (vec_items l.self.entries)
