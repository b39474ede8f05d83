-- What a well-formed file says of its row.
use Rattle.std.proofs.Common.{◌≡◌, ℕ, zero, suc, ◌+◌, ◌-◌, ◌*◌, ◌<◌, ◌≤◌, List, length, get_or, sym, ◌∙◌, subst, arith}
use Rattle.tables.specs.Rows.{Row}
use Rattle.files.specs.Fields.{Bytes}
use Rattle.files.specs.Layout.{SizeFits, WellFormed, file_base, file_others, file_row, file_size, file_units}
use Rattle.files.proofs.Places.{others_at, others_length}

module _ (bytes : List ℕ) (formed : WellFormed bytes) where
  pub formed_some : 1 ≤ file_units bytes
  formed_some = (formed.kept 2 (omega arith)).1.0

  formed_few : file_units bytes ≤ 16
  formed_few = (formed.kept 2 (omega arith)).1.1

  pub formed_low : 1 ≤ file_base bytes
  formed_low = (formed.kept 3 (omega (arith, formed_some))).1.0

  formed_high : file_base bytes ≤ 4096
  formed_high = (formed.kept 3 (omega (arith, formed_some))).1.1

  size_fits : (i : ℕ) → i < file_units bytes - 1 → SizeFits bytes i
  size_fits i h = (formed.kept (suc (suc (suc (suc i)))) (omega arith)).1

  among : (j : ℕ) → j < length (file_others bytes) → j < file_units bytes - 1
  among j h = omega (arith, others_length bytes)

  pub others_sized : (j : ℕ) → j < length (file_others bytes) → 1 ≤ get_or (file_others bytes) j 0
  others_sized j h = subst (λ (g : ℕ). 1 ≤ g) (sym (others_at bytes j (among j h))) (size_fits j (among j h)).some

  -- sizes that rise from one to the next rise
  rises_next : (i : ℕ) → suc i < file_units bytes - 1 → file_size bytes i < file_size bytes (suc i)
  rises_next i h =
      let same : suc i - 1 ≡ i = omega arith in
      subst (λ (k : ℕ). file_size bytes k < file_size bytes (suc i)) same ((size_fits (suc i) h).above (omega arith))

  rises_far : (i k : ℕ) → i + suc k < file_units bytes - 1 → file_size bytes i < file_size bytes (i + suc k)
  rises_far i zero h = let same : suc i ≡ i + 1 = omega arith in subst (λ (j : ℕ). file_size bytes i < file_size bytes j) same (rises_next i (omega arith))
  rises_far i (suc k) h =
      let same : suc (i + suc k) ≡ i + suc (suc k) = omega arith in
      let last = subst (λ (j : ℕ). file_size bytes (i + suc k) < file_size bytes j) same (rises_next (i + suc k) (omega arith)) in
      omega (arith, rises_far i k (omega arith), last)

  rises_any : (i j : ℕ) → i < j → j < file_units bytes - 1 → file_size bytes i < file_size bytes j
  rises_any i j low h =
      let same : i + suc (j - suc i) ≡ j = omega arith in
      subst (λ (k : ℕ). file_size bytes i < file_size bytes k) same (rises_far i (j - suc i) (omega arith))

  row_rises : (i j : ℕ) → 1 ≤ i → i < j → j < length (file_row bytes) → get_or (file_row bytes) i 0 < get_or (file_row bytes) j 0
  row_rises zero j one h l = absurd (omega arith)
  row_rises (suc i) zero one h l = absurd (omega arith)
  row_rises (suc i) (suc j) one h l =
      let there : j < file_units bytes - 1 = among j (omega arith) in
      omega (arith, others_at bytes i (omega arith), others_at bytes j there, rises_any i j (omega arith) there)

  row_apart : (i : ℕ) → 1 ≤ i → i < length (file_row bytes) → get_or (file_row bytes) i 0 ≡ file_base bytes → ⊥
  row_apart zero one h e = absurd (omega arith)
  row_apart (suc i) one h e =
      let there : i < file_units bytes - 1 = among i (omega arith) in
      (size_fits i there).apart (sym (others_at bytes i there) ∙ e)

  module _ (each : Bytes bytes) where
    row_sizes : (i : ℕ) → i < length (file_row bytes) → (1 ≤ get_or (file_row bytes) i 0) × (get_or (file_row bytes) i 0 ≤ 65535)
    row_sizes zero h = (formed_low, omega (arith, each 6, each 7))
    row_sizes (suc i) h =
        let there : i < length (file_others bytes) = omega arith in
        (others_sized i there, omega (arith, others_at bytes i (among i there), each (8 + 2 * i), each (8 + 2 * i + 1)))

    pub formed_row : Row (file_row bytes)
    formed_row =
        record {
          some = omega arith;
          few = omega (arith, others_length bytes, formed_few, formed_some);
          base = formed_high;
          sizes = row_sizes;
          rises = row_rises;
          apart = row_apart;
        }
