-- The units of a file, by place and by position.
use Rattle.std.proofs.Common.{◌≡◌, ℕ, zero, suc, ◌+◌, ◌-◌, ◌<◌, ◌≤◌, List, ◌∷◌, length, get_or, Some, None, sym, refl, ap, ◌∙◌, arith}
use Rattle.std.proofs.lemmas.Option.{slice_get-get_or, slice_get_past}
use Rattle.std.specs.List.{slice_get}
use Rattle.files.specs.Layout.{file_base, file_others, file_row, file_size, file_units, sizes_from}

-- the unit after the first, by its place among the others
nth_after : (x : ℕ) (xs : List ℕ) (i : ℕ) → 1 ≤ i → slice_get (x ∷ xs) i ≡ slice_get xs (i - 1)
nth_after x xs zero h = absurd (omega arith)
nth_after x xs (suc i) h = let same : i ≡ suc i - 1 = omega arith in ap (slice_get xs) same

module _ (bytes : List ℕ) where
  sizes_length : (i n : ℕ) → length (sizes_from bytes i n) ≡ n
  sizes_length i zero = refl
  sizes_length i (suc n) = ap suc (sizes_length (suc i) n)

  sizes_at : (i n j : ℕ) → j < n → get_or (sizes_from bytes i n) j 0 ≡ file_size bytes (i + j)
  sizes_at i zero j h = absurd (omega arith)
  sizes_at i (suc n) zero h = let same : i ≡ i + 0 = omega arith in ap (file_size bytes) same
  sizes_at i (suc n) (suc j) h =
      let same : suc i + j ≡ i + suc j = omega arith in
      sizes_at (suc i) n j (omega arith) ∙ ap (file_size bytes) same

  pub others_length : length (file_others bytes) ≡ file_units bytes - 1
  others_length = sizes_length 0 (file_units bytes - 1)

  pub others_at : (j : ℕ) → j < file_units bytes - 1 → get_or (file_others bytes) j 0 ≡ file_size bytes j
  others_at j h = let same : 0 + j ≡ j = omega arith in sizes_at 0 (file_units bytes - 1) j h ∙ ap (file_size bytes) same

  pub row_length : 1 ≤ file_units bytes → file_units bytes ≡ length (file_row bytes)
  row_length some = omega (arith, others_length)

  -- the size at a position, and none past the last
  pub row_past : (i : ℕ) → file_units bytes - 1 < i → None ≡ slice_get (file_row bytes) i
  row_past i h =
      sym (nth_after (file_base bytes) (file_others bytes) i (omega arith) ∙ slice_get_past (file_others bytes) (i - 1) (omega (arith, others_length)))

  pub row_at : (i : ℕ) → 1 ≤ i → i ≤ file_units bytes - 1 → Some (file_size bytes (i - 1)) ≡ slice_get (file_row bytes) i
  row_at i one h =
      sym (nth_after (file_base bytes) (file_others bytes) i one
      ∙ slice_get-get_or (file_others bytes) (i - 1) 0 (omega (arith, others_length))
      ∙ ap Some (others_at (i - 1) (omega arith)))
