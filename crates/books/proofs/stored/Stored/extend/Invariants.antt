use Rattle.std.proofs.Common.{◌≡◌, vec_items, vec_len}
use Rattle.tables.specs.Tables.{entry_of}
use Rattle.books.proofs.Rounds.{Rounds}
use Rattle.books.proofs.stored.Stored.extend.Given as goal

abbrev pub invariant-loop-start : goal.invariant-loop-start
invariant-loop-start l =
    (vec_len l.self.entries ≡ vec_len l.initial.self.entries)
    × Rounds (vec_len l.initial.self.entries) l.unit l.stride l.start (entry_of (vec_items l.initial.self.entries)) (entry_of (vec_items l.self.entries))
