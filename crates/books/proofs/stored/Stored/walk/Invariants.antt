use Rattle.std.proofs.Common.{vec_items, vec_len}
use Rattle.tables.specs.Tables.{entry_of}
use Rattle.books.proofs.Walks.{Walk}
use Rattle.books.proofs.stored.Stored.walk.Given as goal

abbrev pub invariant-loop-step : goal.invariant-loop-step
invariant-loop-step l =
    Walk (vec_len l.initial.self.entries) l.unit l.stride l.low l._step (entry_of (vec_items l.initial.self.entries)) (vec_items l.self.entries) l.load
