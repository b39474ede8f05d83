use Rattle.std.proofs.Common.{◌≡◌, vec_items, vec_len}
use Rattle.files.specs.Layout.{file_base, file_entry}
use Rattle.books.proofs.Filed.{Copied}
use Rattle.books.proofs.stored.Stored.refill.Given as goal

abbrev pub invariant-loop-remainder : goal.invariant-loop-remainder
invariant-loop-remainder l = (vec_len l.self.entries ≡ file_base l.file) × Copied (file_entry l.file) l.remainder (vec_items l.self.entries)
