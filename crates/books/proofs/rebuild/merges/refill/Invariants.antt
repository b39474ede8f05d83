use Rattle.std.proofs.Common.{◌≡◌, ◌-◌, length}
use Rattle.waiting.specs.Lists.{room, waits}
use Rattle.books.specs.Merges.{Waits, UnderOr}
use Rattle.books.specs.Pointers.{places_of, sizes_of}
use Rattle.books.proofs.rebuild.merges.refill.Given as goal

abbrev pub invariant-loop-position : goal.invariant-loop-position
invariant-loop-position l =
    (room l.waiting ≡ room l.initial.waiting)
    × Waits l.loads (places_of l.pointers) (sizes_of l.pointers) (UnderOr (places_of l.pointers) (length l.loads - 1) l.position) (waits l.waiting)
