use Rattle.std.proofs.Common.{◌≡◌, ◌-◌, ◌≤◌, take, vec_items, vec_len, vec_capacity}
use Rattle.files.specs.Layout.{file_others}
use Rattle.books.proofs.book.filing.refill_sizes.Given as goal

abbrev pub invariant-loop-position : goal.invariant-loop-position
invariant-loop-position l =
    (vec_items l.sizes ≡ take (l.position - 1) (file_others l.file)) × (vec_len l.sizes ≡ l.position - 1) × (15 ≤ vec_capacity l.sizes)
