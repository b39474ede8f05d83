-- The step at a remainder of a file, from the first position that steps up.
use Rattle.std.proofs.Common.{◌≡◌, ℕ, ◌+◌, ◌-◌, ◌<◌, ◌≤◌, Bool, true, false, List, get_or, Some, None, Option, ap, ◌∙◌, arith}
use Rattle.std.specs.Option.{MatchOption}
use Rattle.tables.specs.Steps.{steps, step_at}
use Rattle.tables.proofs.Tested.{step_by_position}
use Rattle.files.specs.Layout.{file_base, file_entry, file_others, file_row, file_size, file_units}
use Rattle.files.proofs.Places.{others_at, others_length}

module _ (bytes : List ℕ) (r units : ℕ) (all : units ≡ file_units bytes) where
  abbrev test : ℕ → Bool
  test position = steps (file_base bytes) (file_entry bytes) r (file_size bytes (position - 1))

  -- the test of the unit at a place is that of the position after it
  at_place : (k : ℕ) → k < units - 1 → steps (file_base bytes) (file_entry bytes) r (get_or (file_others bytes) k 0) ≡ test (k + 1)
  at_place k h = ap (steps (file_base bytes) (file_entry bytes) r) (others_at bytes k (omega arith) ∙ ap (file_size bytes) (let e : k ≡ k + 1 - 1 = omega arith in e))

  pub step_found : (o : Option ℕ)
      → MatchOption o
      ((k : ℕ) → 1 ≤ k → k < units → test k ≡ false)
      (λ i. (1 ≤ i) × (i < units) × (test i ≡ true) × ((k : ℕ) → 1 ≤ k → k < i → test k ≡ false))
      → o ≡ step_at (file_row bytes) (file_entry bytes) r
  step_found None none =
      step_by_position (file_base bytes) (file_entry bytes) r (file_others bytes) None
      (λ k h. let low : k < units - 1 = omega (arith, others_length bytes) in at_place k low ∙ none (k + 1) (omega arith) (omega arith))
  step_found (Some i) first =
      let low : i - 1 < units - 1 = omega (arith, first.0, first.1) in
      step_by_position (file_base bytes) (file_entry bytes) r (file_others bytes) (Some i) (
        first.0,
        (
          omega (arith, others_length bytes, first.1),
          (
            at_place (i - 1) low ∙ ap test (let e : i - 1 + 1 ≡ i = omega (arith, first.0) in e) ∙ first.2,
            λ k h. at_place k (omega arith) ∙ first.3 (k + 1) (omega arith) (omega arith),
          ),
        ),
      )
