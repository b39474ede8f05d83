-- The bytes of a file from an offset on, byte by byte.
use Rattle.std.proofs.Common.{◌≡◌, ℕ, ◌+◌, ◌<◌, List, length, get_or, take, sym, refl, ap, ◌∙◌, arith}
use Rattle.std.proofs.lemmas.Grind.{same_number_lists}
use Rattle.std.proofs.lemmas.List.{get_or-take}
use Rattle.std.proofs.lemmas.List.Edits.{get_or-between}
use Rattle.std.proofs.lemmas.List.FromFn.{get_or-map-range_with_len, length-map-range_with_len}
use Rattle.std.specs.List.{between}
use Rattle.files.specs.Fields.{bytes_at}

module _ (bytes : List ℕ) (p n : ℕ) (xs : List ℕ) where
  -- one after another, where each that lies past the end is a zero
  pub bytes_each : length xs ≡ n → ((i : ℕ) → i < n → get_or xs i 0 ≡ get_or bytes (p + i) 0) → xs ≡ bytes_at bytes p n
  bytes_each long each =
      same_number_lists xs (bytes_at bytes p n) (long ∙ sym (length-map-range_with_len (λ k. get_or bytes k 0) p n))
      (λ i low. each i (omega arith) ∙ sym (get_or-map-range_with_len (λ k. get_or bytes k 0) p n i (p + i) 0 (omega arith) refl))

  -- all of them are there
  pub bytes_there : length xs ≡ n → xs ≡ take n (between p (p + n) bytes) → xs ≡ bytes_at bytes p n
  bytes_there long front =
      bytes_each long
      (λ i low. ap (λ (zs : List ℕ). get_or zs i 0) front ∙ get_or-take n (between p (p + n) bytes) i 0 low ∙ get_or-between bytes p (p + n) i 0 (omega arith))
