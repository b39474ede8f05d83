-- Languages: how the place at which bytes break off carries over from one language to another.
use Rattle.std.proofs.Common.{◌≡◌, ℕ, suc, ◌+◌, ◌-◌, ◌<◌, ◌⊎◌, List, [], ◌∷◌, ◌++◌, length, get_or, take, drop, sym, refl, ap, ◌∙◌, subst, inl, inr, ⊎_elim, arith, take-append-drop}
use Rattle.std.proofs.lemmas.Slice.{first_rest}
use Rattle.lines.specs.Texts.{Starts, Stops}
use Rattle.lines.specs.Tails.{After, End}

pub split : {x y : ℕ} {s t : List ℕ} → x ∷ s ≡ y ∷ t → (x ≡ y) × (s ≡ t)
split e = (cc, cc)

pub same_cons : {x y : ℕ} {s t : List ℕ} → x ≡ y → s ≡ t → x ∷ s ≡ y ∷ t
same_cons e f = cc

pub never : {x : ℕ} {s : List ℕ} → x ∷ s ≡ [] → ⊥
never e = let z : ◌≡◌ {A = ℕ} 0 1 = cc in omega arith

-- a first byte, and the rest as a slice pattern has it
pub parted : (x : ℕ) {bytes : List ℕ} → 0 < length bytes → get_or bytes 0 0 ≡ x → bytes ≡ x ∷ take (length bytes - 1) (drop 1 bytes)
parted x {bytes = bytes} some first = first_rest bytes 0 some ∙ ap (λ (b : ℕ). b ∷ take (length bytes - 1) (drop 1 bytes)) first

-- All has after the byte x just the texts of Rest
module _ (All Rest : List ℕ → Type 0) (x : ℕ) (to : (t : List ℕ) → Rest t → All (x ∷ t)) (from : (t : List ℕ) → All (x ∷ t) → Rest t) where
  pub stops_under : (t : List ℕ) (p : ℕ) → Stops Rest t p → Stops All (x ∷ t) (suc p)
  stops_under t p s = record {
    within = let w = s.within in omega arith;
    before = record { rest = s.before.rest; whole = to _ s.before.whole };
    here = λ h g.
        let e : suc p + 1 ≡ suc (p + 1) = omega arith in
        let longer : Starts All (x ∷ take (p + 1) t) = subst (λ (k : ℕ). Starts All (take k (x ∷ t))) e g in
        s.here (omega arith) (record { rest = longer.rest; whole = from _ longer.whole });
    unread = λ a. s.unread (from t a);
  }

-- one byte and then a text of Rest
module _ (x : ℕ) (Rest : List ℕ → Type 0) where
  to_after : (t : List ℕ) → Rest t → After x Rest (x ∷ t)
  to_after t h = record { rest = t; follows = h; is = refl }

  from_after : (y : ℕ) (t : List ℕ) → After x Rest (y ∷ t) → (x ≡ y) × Rest t
  from_after y t a = let s = split a.is in (s.0, subst Rest s.1 a.follows)

  pub starts_after : Starts Rest [] → Starts (After x Rest) []
  starts_after s = record { rest = x ∷ s.rest; whole = to_after s.rest s.whole }

  pub stops_after : (t : List ℕ) (p : ℕ) → Stops Rest t p → Stops (After x Rest) (x ∷ t) (suc p)
  stops_after = stops_under (After x Rest) Rest x to_after (λ t a. (from_after x t a).1)

  -- the byte itself is not there
  pub stops_before : Starts Rest [] → (t : List ℕ) → (0 < length t → get_or t 0 0 ≡ x → ⊥) → Stops (After x Rest) t 0
  stops_before some [] other = record {
    within = omega arith;
    before = starts_after some;
    here = λ h g. absurd (omega arith);
    unread = λ a. never a.is;
  }
  stops_before some (y ∷ t) other = record {
    within = omega arith;
    before = starts_after some;
    here = λ h g. other (omega arith) (sym (from_after y _ g.whole).0);
    unread = λ a. other (omega arith) (sym (from_after y t a).0);
  }

-- Each text of Narrow is one of Wide. A front of a text of Wide is one of Narrow too, unless Wide has all that begins with it.
pub record Narrows (Wide Narrow : List ℕ → Type 0) : Type 0 where
  pub some : Starts Narrow []
  pub into : (t : List ℕ) → Narrow t → Wide t
  pub fronts : (t : List ℕ) → Starts Wide t → Starts Narrow t ⊎ ((more : List ℕ) → Wide (t ++ more))

module _ (Wide Narrow : List ℕ → Type 0) (n : Narrows Wide Narrow) where
  -- so bytes that are no text of Wide break off at the same place
  pub stops_narrow : (t : List ℕ) (p : ℕ) → Stops Wide t p → Stops Narrow t p
  stops_narrow t p s = record {
    within = s.within;
    before = ⊎_elim (λ g. g) (λ whole. absurd (s.unread (subst Wide (take-append-drop p t) (whole (drop p t))))) (n.fronts (take p t) s.before);
    here = λ h g. s.here h (record { rest = g.rest; whole = n.into _ g.whole });
    unread = λ w. s.unread (n.into t w);
  }

  fronts_after : (x : ℕ) (t : List ℕ) → Starts (After x Wide) t → Starts (After x Narrow) t ⊎ ((more : List ℕ) → After x Wide (t ++ more))
  fronts_after x [] s = inl (starts_after x Narrow n.some)
  fronts_after x (y ∷ t) s =
      let f = from_after x Wide y (t ++ s.rest) s.whole in
      ⊎_elim
      (λ (g : Starts Narrow t). inl (record { rest = g.rest; whole = record { rest = t ++ g.rest; follows = g.whole; is = ap (λ (z : ℕ). z ∷ (t ++ g.rest)) f.0 } }))
      (λ (whole : (more : List ℕ) → Wide (t ++ more)). inr (λ more. record { rest = t ++ more; follows = whole more; is = ap (λ (z : ℕ). z ∷ (t ++ more)) f.0 }))
      (n.fronts t (record { rest = s.rest; whole = f.1 }))

  pub narrows_after : (x : ℕ) → Narrows (After x Wide) (After x Narrow)
  narrows_after x = record {
    some = starts_after x Narrow n.some;
    into = λ t a. record { rest = a.rest; follows = n.into a.rest a.follows; is = a.is };
    fronts = fronts_after x;
  }

-- the end of a line
pub starts_end : Starts End []
starts_end = record { rest = 10 ∷ []; whole = refl }
