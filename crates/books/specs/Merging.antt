-- What holds of a merge between two turns and at one, and what each turn keeps.
use Rattle.std.specs.Prelude.{◌≡◌, length}
use Rattle.waiting.specs.Lists.{waits}
use Rattle.books.specs.declared.rebuild.candidates.Candidate.{Candidate}
use Rattle.books.specs.declared.rebuild.merges.Merge.{Merge}
use Rattle.books.specs.Merges.{State, Turning}
use Rattle.books.specs.Pointers.{places_of, sizes_of}

-- Between two turns.
abbrev pub IsBetween : Merge → Type 0
IsBetween g = State (sizes_of g.pointers.now) g.base g.strip.now g.loads.now.list.items (places_of g.pointers.now) (length g.loads.now.list.items) (waits g.waiting)

-- The candidate is taken out, and its unit's pointer is not moved yet.
abbrev pub IsTurning : Merge → Candidate → Type 0
IsTurning g x = Turning (sizes_of g.pointers.now) g.base g.strip.now g.loads.now.list.items (places_of g.pointers.now) (length g.loads.now.list.items) x (waits g.waiting)

-- The row is the same.
pub record Keeps (old new : Merge) : Type 0 where
  pub base : new.base ≡ old.base
  pub sizes : sizes_of new.pointers.now ≡ sizes_of old.pointers.now
