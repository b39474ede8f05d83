-- Sizes in an ascending list: whether one is there, and its place.
use Rattle.std.proofs.Common.{◌≡◌, ℕ, zero, suc, ◌-◌, ◌<◌, ◌≤◌, Bool, true, false, ◌||◌, eqb, List, [], ◌∷◌, length, get_or, is_ok, Ok, Err, Result, sym, refl, ap, subst, ⊎_elim, arith}
use Rattle.std.specs.List.{insert, slice_get}
use Rattle.std.proofs.lemmas.Bool.{lt-ltb, le-ltb, eq-eqb, ne_eqb, cases_order}
use Rattle.books.specs.Units.{Rising, Located, has, put}

pub has_none : (g : ℕ) (xs : List ℕ) → ((i : ℕ) → i < length xs → get_or xs i 0 ≡ g → ⊥) → has g xs ≡ false
has_none g [] no' = refl
has_none g (x ∷ xs) no' =
    let ne : x ≡ g → ⊥ = no' 0 (omega arith) in
    rw (ne_eqb x g ne) (has_none g xs (λ i h e. no' (suc i) (omega arith) e))

pub has_some : (g : ℕ) (xs : List ℕ) (i : ℕ) → i < length xs → get_or xs i 0 ≡ g → has g xs ≡ true
has_some g [] i h e = absurd (omega arith)
has_some g (x ∷ xs) zero h e = rw (eq-eqb x g e) refl
has_some g (x ∷ xs) (suc i) h e =
    let t : has g xs ≡ true = has_some g xs i (omega arith) e in
    go (eqb x g) t
  where
    go : (b : Bool) → has g xs ≡ true → (b || has g xs) ≡ true
    go true t = refl
    go false t = t

-- no element of an ascending list is the size, where it would have a place
pub not_there : (g : ℕ) (xs : List ℕ) (at : ℕ) → Rising xs → Located xs g (Err at) → (i : ℕ) → i < length xs → get_or xs i 0 ≡ g → ⊥
not_there g xs at up l i h e =
    ⊎_elim
    (λ (q : i ≡ at). omega (arith, l.2 (omega arith), ap (λ (k : ℕ). get_or xs k 0) q))
    (⊎_elim
    (λ (lt : i < at). omega (arith, l.1 i lt))
    (λ (gt : at < i). omega (arith, up at i gt h, l.2 (omega arith))))
    (cases_order i at)

pub put_is : (g : ℕ) (xs : List ℕ) (at : ℕ) → at ≤ length xs → ((i : ℕ) → i < at → get_or xs i 0 < g) → (at < length xs → g < get_or xs at 0) →
    insert xs at g ≡ put g xs
put_is g [] zero le below above = refl
put_is g [] (suc n) le below above = absurd (omega arith)
put_is g (x ∷ xs) zero le below above =
    let lt : g < x = above (omega arith) in rw (lt-ltb g x lt) refl
put_is g (x ∷ xs) (suc n) le below above =
    let le' : x ≤ g = omega (arith, below 0 (omega arith)) in
    rw (le-ltb g x le') (ap (λ (l : List ℕ). x ∷ l) (put_is g xs n (omega arith) (λ i h. below (suc i) (omega arith)) (λ h. above (omega arith))))

pub located : (xs ys : List ℕ) (g : ℕ) (r : Result ℕ ℕ) → ys ≡ xs → Located ys g r → Located xs g r
located xs ys g r e l = subst (λ (zs : List ℕ). Located zs g r) e l

pub has_no_place : (g : ℕ) (xs ys : List ℕ) (at : ℕ) → ys ≡ xs → Rising xs → Located ys g (Err at) → has g xs ≡ false
has_no_place g xs ys at e up l = has_none g xs (not_there g xs at up (subst (λ (zs : List ℕ). Located zs g (Err at)) e l))

pub has_place : (g : ℕ) (xs ys : List ℕ) (at : ℕ) → ys ≡ xs → Located ys g (Ok at) → has g xs ≡ true
has_place g xs ys at e l = let m = subst (λ (zs : List ℕ). Located zs g (Ok at)) e l in has_some g xs at m.0 m.2

-- what stands past the base of a row
pub nth_after : (base : ℕ) (xs : List ℕ) (k : ℕ) → 1 ≤ k → slice_get (base ∷ xs) k ≡ slice_get xs (k - 1)
nth_after base xs zero h = absurd (omega arith)
nth_after base xs (suc k) h = ap (slice_get xs) (let e : k ≡ suc k - 1 = omega arith in e)

-- a search finds a size exactly where it is there
pub found : (g : ℕ) (xs ys : List ℕ) (r : Result ℕ ℕ) → ys ≡ xs → Rising xs → Located ys g r → is_ok r ≡ has g xs
found g xs ys (Ok at) e up l = sym (has_place g xs ys at e l)
found g xs ys (Err at) e up l = sym (has_no_place g xs ys at e up l)
