-- Memory whose front has been written, and then some more of it.
use Rattle.std.proofs.Common.{◌≡◌, ℕ, ◌+◌, ◌-◌, ◌*◌, ◌<◌, ◌≤◌, List, [], ◌∷◌, ◌++◌, length, get_or, take, drop, Option, sym, refl, ap, ◌∙◌, arith, length-append, length-drop}
use Rattle.std.specs.List.{flat_map}
use Rattle.std.proofs.lemmas.List.{take_all, take_at, drop_at, drop-drop, take_more, flat_map_more, length-take-le}
use Rattle.tables.specs.Rows.{base_of}
use Rattle.files.specs.Fields.{be16}
use Rattle.files.specs.Layout.{letters}
use Rattle.files.specs.Written.{Saved, entries_from, entry_bytes}

pub front_more : (front ys before now : List ℕ) (at k : ℕ) → length front ≡ at → now ≡ front ++ drop at before → take at now ++ ys ++ drop (at + k) now ≡ front ++ ys ++ drop (at + k) before
front_more front ys before now at k l e =
    let front_is : take at now ≡ front = ap (take at) e ∙ take_at front (drop at before) at l in
    let rest_is : drop at now ≡ drop at before = ap (drop at) e ∙ drop_at front (drop at before) at l in
    let later : drop (at + k) now ≡ drop (at + k) before = sym (drop-drop k at now) ∙ ap (drop k) rest_is ∙ drop-drop k at before in
    ap (λ (xs : List ℕ). xs ++ ys ++ drop (at + k) now) front_is ∙ ap (λ (xs : List ℕ). front ++ ys ++ xs) later

-- the length of parts that are all as long
pub joined_length : {X : Type 0} (f : X → List ℕ) (k : ℕ) → ((x : X) → length (f x) ≡ k) → (xs : List X) → length (flat_map f xs) ≡ k * length xs
joined_length f k each [] = let z : 0 ≡ k * 0 = omega arith in z
joined_length f k each (x ∷ xs) = length-append (f x) (flat_map f xs) ∙ omega (arith, each x, joined_length f k each xs)

-- one more part of a loop that writes them
pub part_more : {X : Type 0} (f : X → List ℕ) (k : ℕ) (each : (x : X) → length (f x) ≡ k) (xs : List X) (d : X) (before now after : List ℕ) (at i : ℕ)
    → i < length xs → at ≤ length before
    → now ≡ take at before ++ flat_map f (take i xs) ++ drop (at + k * i) before
    → after ≡ take (at + k * i) now ++ f (get_or xs i d) ++ drop (at + k * i + k) now
    → after ≡ take at before ++ flat_map f (take (i + 1) xs) ++ drop (at + k * (i + 1)) before
part_more f k each xs d before now after at i low room was is =
    let front : List ℕ = take at before ++ flat_map f (take i xs) in
    let size : length front ≡ at + k * i =
    length-append (take at before) (flat_map f (take i xs))
    ∙ omega (arith, length-take-le at before room, joined_length f k each (take i xs), length-take-le i xs (omega arith), ap (λ (n : ℕ). k * n) (length-take-le i xs (omega arith))) in
    let end : at + k * i + k ≡ at + k * (i + 1) = omega arith in
    is
    ∙ front_more front (f (get_or xs i d)) before now (at + k * i) k size was
    ∙ ap (λ (ys : List ℕ). ys ++ drop (at + k * i + k) before)
    (flat_map_more f (take at before) (take i xs) (get_or xs i d) ∙ ap (λ (ys : List _). take at before ++ flat_map f ys) (sym (take_more xs i d low)))
    ∙ ap (λ (n : ℕ). take at before ++ flat_map f (take (i + 1) xs) ++ drop n before) end

-- all parts, n of them
pub part_all : {X : Type 0} (f : X → List ℕ) (k : ℕ) (xs : List X) (before now : List ℕ) (at i n : ℕ)
    → i ≡ length xs → i ≡ n
    → now ≡ take at before ++ flat_map f (take i xs) ++ drop (at + k * i) before
    → now ≡ take at before ++ flat_map f xs ++ drop (at + k * n) before
part_all f k xs before now at i n end same was =
    let whole : take i xs ≡ xs = take_all i xs (omega arith) in
    was
    ∙ ap (λ (ys : List _). take at before ++ flat_map f ys ++ drop (at + k * i) before) whole
    ∙ ap (λ (j : ℕ). take at before ++ flat_map f xs ++ drop (at + k * j) before) same

-- the head, the sizes and the entries, one after the other
file_whole : (head sizes entries before one two three : List ℕ) (p q : ℕ)
    → length head ≡ 8 → length sizes ≡ p
    → one ≡ head ++ drop 8 before
    → two ≡ take 8 one ++ sizes ++ drop (8 + p) one
    → three ≡ take (8 + p) two ++ entries ++ drop (8 + p + q) two
    → three ≡ head ++ sizes ++ entries ++ drop (8 + p + q) before
file_whole head sizes entries before one two three p q eight l a b c =
    let two_is : two ≡ head ++ sizes ++ drop (8 + p) before = b ∙ front_more head sizes before one 8 p eight a in
    c ∙ front_more (head ++ sizes) entries before two (8 + p) q (length-append head sizes ∙ omega arith) two_is

module _ (row : List ℕ) (entry : ℕ → Option ℕ) (before one two three : List ℕ) (units base : ℕ) where
  abbrev head_of : ℕ → ℕ → List ℕ
  head_of u b = letters ++ (be16 1 ++ (u ∷ be16 b))

  abbrev sizes : List ℕ
  sizes = flat_map be16 (drop 1 row)

  abbrev loads : ℕ → List ℕ
  loads b = flat_map entry_bytes (entries_from entry 0 b)

  -- what the three parts leave, where the number of units and the base are known by other names
  pub saved_whole : units ≡ length row → base ≡ base_of row → 8 + 2 * (units - 1) + 4 * base ≤ length before
      → one ≡ head_of units base ++ drop 8 before
      → two ≡ take 8 one ++ sizes ++ drop (8 + 2 * (units - 1)) one
      → three ≡ take (8 + 2 * (units - 1)) two ++ loads base ++ drop (8 + 2 * (units - 1) + 4 * base) two
      → Saved row entry before (8 + 2 * (units - 1) + 4 * base) three
  saved_whole all based room a b c =
      let end : ℕ = 8 + 2 * (units - 1) + 4 * base in
      record {
        length_is = omega arith;
        room = room;
        front =
            file_whole (head_of units base) sizes (loads base) before one two three (2 * (units - 1)) (4 * base) refl
            (joined_length be16 2 (λ x. refl) (drop 1 row) ∙ omega (arith, length-drop 1 row)) a b c
            ∙ ap (λ (u : ℕ). head_of u base ++ sizes ++ loads base ++ drop end before) all
            ∙ ap (λ (m : ℕ). head_of (length row) m ++ sizes ++ loads m ++ drop end before) based;
      }
