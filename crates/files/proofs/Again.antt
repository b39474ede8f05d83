-- A well-formed file is what writing its own row and entries gives.
use Rattle.std.proofs.Common.{◌≡◌, ℕ, zero, suc, ◌+◌, ◌-◌, ◌*◌, ◌<◌, ◌≤◌, ltb, List, ◌∷◌, ◌++◌, length, drop, Some, None, Option, sym, ap, ◌∙◌, inl, inr, append_assoc, arith}
use Rattle.std.specs.List.{flat_map}
use Rattle.std.proofs.lemmas.List.{append-nil, drop_all, drop_more, take-append-drop}
use Rattle.std.proofs.lemmas.Bool.{cases_lt, cond-true, cond-false, lt-ltb, le-ltb}
use Rattle.files.specs.Entries.{entry_here}
use Rattle.files.specs.Fields.{Bytes, at32, be16, be32}
use Rattle.files.specs.Layout.{WellFormed, entry_value, file_base, file_entry, file_others, file_row, file_size, file_units, letters, sizes_from}
use Rattle.files.specs.Rounds.{WrittenAgain}
use Rattle.files.specs.Written.{entries_from, entries_of, entry_bytes, entry_number, head_bytes, written}
use Rattle.files.proofs.Formed.{formed_row, formed_some}
use Rattle.files.proofs.Numbers.{drop16, drop32}
use Rattle.files.proofs.Places.{others_length}

-- the number that stands for the entry that a number stands for
value_number : (n : ℕ) → n < 4294967296 → entry_number (entry_value n) ≡ n
value_number n h =
    elim (cases_lt n 4294967295) [
      | inl low ↦ ap entry_number (cond-true (ltb n 4294967295) (Some n) None (lt-ltb n 4294967295 low))
      | inr high ↦
          let top : 4294967295 ≡ n = omega arith in
          ap entry_number (cond-false (ltb n 4294967295) (Some n) None (le-ltb n 4294967295 high)) ∙ top
    ]

module _ (bytes : List ℕ) (each : Bytes bytes) where
  sizes_spelt : (i n : ℕ) → 8 + 2 * (i + n) ≤ length bytes → flat_map be16 (sizes_from bytes i n) ++ drop (8 + 2 * (i + n)) bytes ≡ drop (8 + 2 * i) bytes
  sizes_spelt i zero h = let same : 8 + 2 * (i + 0) ≡ 8 + 2 * i = omega arith in ap (λ (k : ℕ). drop k bytes) same
  sizes_spelt i (suc n) h =
      let g : ℕ = file_size bytes i in
      let later : 8 + 2 * (i + suc n) ≡ 8 + 2 * (suc i + n) = omega arith in
      let next : 8 + 2 * suc i ≡ 8 + 2 * i + 2 = omega arith in
      append_assoc (be16 g) (flat_map be16 (sizes_from bytes (suc i) n)) (drop (8 + 2 * (i + suc n)) bytes)
      ∙ ap (λ (k : ℕ). be16 g ++ (flat_map be16 (sizes_from bytes (suc i) n) ++ drop k bytes)) later
      ∙ ap (λ (zs : List ℕ). be16 g ++ zs) (sizes_spelt (suc i) n (omega arith) ∙ ap (λ (k : ℕ). drop k bytes) next)
      ∙ drop16 bytes each (8 + 2 * i) (omega arith)

  at32_below : (p : ℕ) → at32 bytes p < 4294967296
  at32_below p = omega (arith, each p, each (p + 1), each (p + 2), each (p + 3))

  abbrev start : ℕ
  start = 8 + 2 * (file_units bytes - 1)

  entries_spelt : (r n : ℕ) → r + n ≤ file_base bytes → start + 4 * (r + n) ≤ length bytes → flat_map entry_bytes (entries_from (file_entry bytes) r n) ++ drop (start + 4 * (r + n)) bytes ≡ drop (start + 4 * r) bytes
  entries_spelt r zero low h = let same : start + 4 * (r + 0) ≡ start + 4 * r = omega arith in ap (λ (k : ℕ). drop k bytes) same
  entries_spelt r (suc n) low h =
      let o : Option ℕ = file_entry bytes r in
      let rest : List ℕ = flat_map entry_bytes (entries_from (file_entry bytes) (suc r) n) in
      let spelt : entry_bytes o ≡ be32 (at32 bytes (start + 4 * r)) =
      ap be32 (ap entry_number (entry_here bytes r (omega arith)) ∙ value_number (at32 bytes (start + 4 * r)) (at32_below (start + 4 * r))) in
      let later : start + 4 * (r + suc n) ≡ start + 4 * (suc r + n) = omega arith in
      let next : start + 4 * suc r ≡ start + 4 * r + 4 = omega arith in
      append_assoc (entry_bytes o) rest (drop (start + 4 * (r + suc n)) bytes)
      ∙ ap (λ (k : ℕ). entry_bytes o ++ (rest ++ drop k bytes)) later
      ∙ ap (λ (zs : List ℕ). entry_bytes o ++ zs) (entries_spelt (suc r) n (omega arith) (omega arith) ∙ ap (λ (k : ℕ). drop k bytes) next)
      ∙ ap (λ (zs : List ℕ). zs ++ drop (start + 4 * r + 4) bytes) spelt
      ∙ drop32 bytes each (start + 4 * r) (omega arith)

  module _ (formed : WellFormed bytes) where
    head_spelt : head_bytes (file_row bytes) ++ drop 8 bytes ≡ bytes
    head_spelt =
        let long : 8 ≤ length bytes = omega (arith, formed.whole) in
        let units : suc (length (file_others bytes)) ≡ file_units bytes = omega (arith, others_length bytes, formed_some bytes formed) in
        let base : be16 (file_base bytes) ++ drop 8 bytes ≡ drop 6 bytes = drop16 bytes each 6 long in
        let count : file_units bytes ∷ drop 6 bytes ≡ drop 5 bytes = sym (drop_more bytes 5 0 (omega arith)) in
        let version : be16 1 ++ drop 5 bytes ≡ drop 3 bytes =
        ap (λ (n : ℕ). be16 n ++ drop 5 bytes) (sym (formed.kept 1 (omega arith)).1) ∙ drop16 bytes each 3 (omega arith) in
        ap (λ (k : ℕ). letters ++ (be16 1 ++ (k ∷ (be16 (file_base bytes) ++ drop 8 bytes)))) units
        ∙ ap (λ (zs : List ℕ). letters ++ (be16 1 ++ (file_units bytes ∷ zs))) base
        ∙ ap (λ (zs : List ℕ). letters ++ (be16 1 ++ zs)) count
        ∙ ap (λ (zs : List ℕ). letters ++ zs) version
        ∙ ap (λ (zs : List ℕ). zs ++ drop 3 bytes) (sym (formed.kept 0 (omega arith)).1)
        ∙ take-append-drop 3 bytes

    spelt_again : written (file_row bytes) (file_entry bytes) ≡ bytes
    spelt_again =
        let n : ℕ = file_units bytes - 1 in
        let m : ℕ = file_base bytes in
        let head : List ℕ = head_bytes (file_row bytes) in
        let sizes : List ℕ = flat_map be16 (file_others bytes) in
        let loads : List ℕ = flat_map entry_bytes (entries_of (file_row bytes) (file_entry bytes)) in
        let end : start + 4 * (0 + m) ≡ length bytes = omega (arith, formed.whole) in
        let zero_on : 8 + 2 * (0 + n) ≡ start = omega arith in
        let first : start + 4 * 0 ≡ start = omega arith in
        let loads_is : loads ≡ drop start bytes =
        sym (append-nil loads)
        ∙ ap (λ (zs : List ℕ). loads ++ zs) (sym (drop_all (start + 4 * (0 + m)) bytes (omega (arith, end))))
        ∙ entries_spelt 0 m (omega arith) (omega (arith, end)) ∙ ap (λ (k : ℕ). drop k bytes) first in
        let sizes_is : sizes ++ drop start bytes ≡ drop 8 bytes =
        ap (λ (k : ℕ). sizes ++ drop k bytes) (sym zero_on) ∙ sizes_spelt 0 n (omega (arith, end)) in
        append_assoc head sizes loads ∙ ap (λ (zs : List ℕ). head ++ (sizes ++ zs)) loads_is ∙ ap (λ (zs : List ℕ). head ++ zs) sizes_is ∙ head_spelt

    pub written_again : WrittenAgain bytes
    written_again = record { row = formed_row bytes formed each; again = spelt_again }
