-- Numbers and their bytes.
use Rattle.std.proofs.Common.{◌≡◌, ℕ, ◌+◌, ◌-◌, ◌*◌, ◌/◌, ◌%◌, ◌<◌, ◌≤◌, List, [], ◌∷◌, ◌++◌, length, get_or, drop, sym, ap, ◌∙◌, mod-eq_of_lt, arith}
use native.Mathlib.Nat.{div-div-eq-div-mul, div-add-mod}
use Rattle.std.proofs.lemmas.Nat.{div_below}
use Rattle.std.proofs.lemmas.List.{drop_more, get_or-append_right}
use Rattle.files.specs.Fields.{Bytes, at16, at32, be16, be32}

-- the bytes of a number make it up
pub up16 : (n : ℕ) → n < 65536 → (n / 256 % 256) * 256 + n % 256 ≡ n
up16 n h = omega arith

pub up32 : (n : ℕ) → n < 4294967296 → (n / 16777216 % 256) * 16777216 + (n / 65536 % 256) * 65536 + (n / 256 % 256) * 256 + n % 256 ≡ n
up32 n h =
    let a : n / 256 / 256 ≡ n / 65536 = div-div-eq-div-mul n 256 256 in
    let b : n / 65536 / 256 ≡ n / 16777216 = div-div-eq-div-mul n 65536 256 in
    let top : n / 16777216 % 256 ≡ n / 16777216 = mod-eq_of_lt (div_below n 16777216 256 (omega arith) h) in
    let p = div-add-mod n 256 in
    let q = rw a at (div-add-mod (n / 256) 256) in
    let r = rw b at (div-add-mod (n / 65536) 256) in
    omega arith

-- and a number has the bytes that make it up
pub down16 : (x y : ℕ) → x < 256 → y < 256 → be16 (x * 256 + y) ≡ x ∷ y ∷ []
down16 x y hx hy =
    let p : (x * 256 + y) / 256 % 256 ≡ x = omega arith in
    let q : (x * 256 + y) % 256 ≡ y = omega arith in
    ap (λ (k : ℕ). k ∷ ((x * 256 + y) % 256) ∷ []) p ∙ ap (λ (k : ℕ). x ∷ k ∷ []) q

pub down32 : (x y z w : ℕ) → x < 256 → y < 256 → z < 256 → w < 256 → be32 (x * 16777216 + y * 65536 + z * 256 + w) ≡ x ∷ y ∷ z ∷ w ∷ []
down32 x y z w hx hy hz hw =
    let n : ℕ = x * 16777216 + y * 65536 + z * 256 + w in
    let a : n / 16777216 % 256 ≡ x = omega arith in
    let b : n / 65536 % 256 ≡ y = omega arith in
    let c : n / 256 % 256 ≡ z = omega arith in
    let d : n % 256 ≡ w = omega arith in
    ap (λ (k : ℕ). k ∷ (n / 65536 % 256) ∷ (n / 256 % 256) ∷ (n % 256) ∷ []) a
    ∙ ap (λ (k : ℕ). x ∷ k ∷ (n / 256 % 256) ∷ (n % 256) ∷ []) b
    ∙ ap (λ (k : ℕ). x ∷ y ∷ k ∷ (n % 256) ∷ []) c
    ∙ ap (λ (k : ℕ). x ∷ y ∷ z ∷ k ∷ []) d

module _ (bytes : List ℕ) (each : Bytes bytes) where
  -- a field and what follows it
  pub drop16 : (p : ℕ) → p + 2 ≤ length bytes → be16 (at16 bytes p) ++ drop (p + 2) bytes ≡ drop p bytes
  drop16 p h =
      let x : ℕ = get_or bytes p 0 in
      let y : ℕ = get_or bytes (p + 1) 0 in
      let two : p + 1 + 1 ≡ p + 2 = omega arith in
      ap (λ (zs : List ℕ). zs ++ drop (p + 2) bytes) (down16 x y (each p) (each (p + 1)))
      ∙ sym (drop_more bytes p 0 (omega arith)
      ∙ ap (λ (zs : List ℕ). x ∷ zs) (drop_more bytes (p + 1) 0 (omega arith) ∙ ap (λ (k : ℕ). y ∷ drop k bytes) two))

  pub drop32 : (p : ℕ) → p + 4 ≤ length bytes → be32 (at32 bytes p) ++ drop (p + 4) bytes ≡ drop p bytes
  drop32 p h =
      let x : ℕ = get_or bytes p 0 in
      let y : ℕ = get_or bytes (p + 1) 0 in
      let z : ℕ = get_or bytes (p + 2) 0 in
      let w : ℕ = get_or bytes (p + 3) 0 in
      let two : p + 1 + 1 ≡ p + 2 = omega arith in
      let three : p + 2 + 1 ≡ p + 3 = omega arith in
      let four : p + 3 + 1 ≡ p + 4 = omega arith in
      ap (λ (zs : List ℕ). zs ++ drop (p + 4) bytes) (down32 x y z w (each p) (each (p + 1)) (each (p + 2)) (each (p + 3)))
      ∙ sym (drop_more bytes p 0 (omega arith)
      ∙ ap (λ (zs : List ℕ). x ∷ zs) (drop_more bytes (p + 1) 0 (omega arith) ∙ ap (λ (k : ℕ). y ∷ drop k bytes) two
      ∙ ap (λ (zs : List ℕ). y ∷ zs) (drop_more bytes (p + 2) 0 (omega arith) ∙ ap (λ (k : ℕ). z ∷ drop k bytes) three
      ∙ ap (λ (zs : List ℕ). z ∷ zs) (drop_more bytes (p + 3) 0 (omega arith) ∙ ap (λ (k : ℕ). w ∷ drop k bytes) four))))

-- what stands past a front
module _ (front rest : List ℕ) (p : ℕ) (size : length front ≡ p) where
  past : (i : ℕ) → get_or (front ++ rest) (p + i) 0 ≡ get_or rest i 0
  past i =
      let d : p + i - p ≡ i = omega arith in
      get_or-append_right front rest p (p + i) 0 size (omega arith) ∙ ap (λ (k : ℕ). get_or rest k 0) d

  here : get_or (front ++ rest) p 0 ≡ get_or rest 0 0
  here = let z : p ≡ p + 0 = omega arith in ap (λ (k : ℕ). get_or (front ++ rest) k 0) z ∙ past 0

  pub past16 : at16 (front ++ rest) p ≡ at16 rest 0
  past16 = omega (arith, here, past 1)

  pub past32 : at32 (front ++ rest) p ≡ at32 rest 0
  past32 = omega (arith, here, past 1, past 2, past 3)
