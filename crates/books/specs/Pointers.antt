-- The pointers of a merge, read as the sizes of their units and as the places where they stand.
use Rattle.std.specs.Prelude.{ℕ, List, map}
use Rattle.books.specs.declared.rebuild.pointers.Pointer.{Pointer}

-- The sizes of the units.
abbrev pub sizes_of : List Pointer → List ℕ
sizes_of pointers = map (λ p. p.size) pointers

-- The places of the loads that the units lead from next.
abbrev pub places_of : List Pointer → List ℕ
places_of pointers = map (λ p. p.at) pointers
