-- Pointers: where they all start, and where one of them moves.
use Rattle.std.proofs.Common.{◌≡◌, ℕ, ◌+◌, ◌<◌, ◌≤◌, List, length, get_or, set, sym, refl, ◌∙◌, ap, ⊎_elim, arith}
use Rattle.std.proofs.Math.ListN.{get_or-map}
use Rattle.std.proofs.Math.Seq.{map-set_same}
use Rattle.std.proofs.lemmas.List.{length-map, get_or_default, get_or_past, map-set, same_lists}
use Rattle.std.proofs.lemmas.Bool.{cases_lt}
use Rattle.books.specs.declared.rebuild.pointers.Pointer.{Pointer}
use Rattle.books.specs.Pointers.{places_of, sizes_of}

-- what a read past the pointers gives
abbrev pub no_one : Pointer
no_one = record { size = 0; at = 0 }

pub size_at : (ps : List Pointer) (u : ℕ) → get_or (sizes_of ps) u 0 ≡ (get_or ps u no_one).size
size_at ps u = get_or-map (λ (p : Pointer). p.size) ps u no_one

pub place_at : (ps : List Pointer) (u : ℕ) → get_or (places_of ps) u 0 ≡ (get_or ps u no_one).at
place_at ps u = get_or-map (λ (p : Pointer). p.at) ps u no_one

pub size_units : (ps : List Pointer) → length (sizes_of ps) ≡ length ps
size_units ps = length-map ps (λ (p : Pointer). p.size)

pub place_units : (ps : List Pointer) → length (places_of ps) ≡ length ps
place_units ps = length-map ps (λ (p : Pointer). p.at)

-- each unit has its size, and its pointer stands at the first load
module _ (ps : List Pointer) (sizes : List ℕ) (same_long : length ps ≡ length sizes)
    (is : (k : ℕ) (d : Pointer) → k < length ps → get_or ps k d ≡ record { size = get_or sizes k 0; at = 0 }) where
  size_there : (u : ℕ) → u < length ps → get_or (sizes_of ps) u 0 ≡ get_or sizes u 0
  size_there u h = size_at ps u ∙ ap (λ (p : Pointer). p.size) (is u no_one h)

  pub start_sizes : sizes_of ps ≡ sizes
  start_sizes =
      let long : length (sizes_of ps) ≡ length ps = size_units ps in
      same_lists (sizes_of ps) sizes (omega arith) (λ k d h. let lt : k < length ps = omega arith in
      get_or_default (sizes_of ps) k d 0 h ∙ (size_there k lt ∙ get_or_default sizes k 0 d (omega arith)))

  pub start_first : (u : ℕ) → get_or (places_of ps) u 0 ≡ 0
  start_first u =
      ⊎_elim (λ (lt : u < length ps). place_at ps u ∙ ap (λ (p : Pointer). p.at) (is u no_one lt))
      (λ (past : length ps ≤ u). place_at ps u ∙ ap (λ (p : Pointer). p.at) (get_or_past ps u no_one past))
      (cases_lt u (length ps))

-- the pointers after the one of the unit i has moved on
abbrev pub moved : List Pointer → ℕ → List Pointer
moved ps i = set ps i (record { size = (get_or ps i no_one).size; at = (get_or ps i no_one).at + 1 })

pub moved_sizes : (ps : List Pointer) (i : ℕ) → sizes_of (moved ps i) ≡ sizes_of ps
moved_sizes ps i =
    map-set_same (λ (p : Pointer). p.size) ps i (record { size = (get_or ps i no_one).size; at = (get_or ps i no_one).at + 1 }) no_one refl

pub moved_places : (ps : List Pointer) (i : ℕ) → places_of (moved ps i) ≡ set (places_of ps) i (get_or (places_of ps) i 0 + 1)
moved_places ps i =
    map-set (λ (p : Pointer). p.at) ps i (record { size = (get_or ps i no_one).size; at = (get_or ps i no_one).at + 1 })
    ∙ ap (λ (k : ℕ). set (places_of ps) i (k + 1)) (sym (place_at ps i))
