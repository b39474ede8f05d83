use Rattle.std.proofs.Common.{◌≡◌, ℕ, ◌<◌, slice_index, slice_index_or}
use Rattle.books.specs.declared.rebuild.pointers.Pointer.{Pointer}
use Rattle.books.proofs.rebuild.pointers.start.Given as goal

abbrev pub invariant-loop-i : goal.invariant-loop-i
invariant-loop-i l = (k : ℕ) (d : Pointer) → k < l.i → slice_index_or l.pointers k d ≡ record { size = slice_index l.sizes k; at = 0 }
