-- A number and then a text of any language that begins with no digit: where bytes break off, before, in and after the number.
use Rattle.std.proofs.Common.{◌≡◌, ℕ, suc, ◌+◌, ◌^◌, ◌<◌, ◌≤◌, ◌⊎◌, List, [], ◌∷◌, ◌++◌, length, get_or, take, drop, decimal, sym, refl, ap, ◌∙◌, subst, inl, inr, ⊎_elim, append_assoc, add-zero, zero-add, add-one, arith, length-append, take-append-drop, length-take, get_or-drop}
use Rattle.std.proofs.lemmas.Fmt.{decimal_is_IsNumeral}
use Rattle.std.proofs.lemmas.List.{get_or_append_left}
use Rattle.tables.specs.declared.refusals.Refusal.{Refusal}
use Rattle.tables.specs.declared.refusals.Refusal.TheVariants.{Unreadable}
use Rattle.lines.specs.Numbers.{Digit, Bare, NumberThen, Numbered, Numberless}
use Rattle.lines.specs.Tails.{After, End, Spaced, SpacedNumber, Passes, Breaks}
use Rattle.lines.specs.Texts.{Starts, Stops}
use Rattle.lines.proofs.Figures.{same_front, bare_end}
use Rattle.lines.proofs.Languages.{split, same_cons, Narrows, starts_after, starts_end, stops_after, stops_before, stops_narrow, narrows_after}

-- A language that can follow a number: it has a text, and each of its texts begins with a byte that is no digit.
pub record Ending (Rest : List ℕ → Type 0) : Type 0 where
  pub some : Starts Rest []
  pub bare : (t : List ℕ) → Rest t → Bare t

pub ending_bare : Ending Bare
ending_bare = record { some = record { rest = 10 ∷ []; whole = bare_end }; bare = λ t b. b }

pub ending_end : Ending End
ending_end = record { some = starts_end; bare = λ t e. subst Bare (sym e) bare_end }

pub ending_after : (x : ℕ) (Rest : List ℕ → Type 0) → (Digit x → ⊥) → Starts Rest [] → Ending (After x Rest)
ending_after x Rest other some = record {
  some = starts_after x Rest some;
  bare = λ t a. subst Bare a.is (record { some = omega arith; first = other });
}

-- two ways to take the same bytes apart: the first part of the one stands in that of the other, or passes it
fork : (ds xs t r : List ℕ) → ds ++ xs ≡ t ++ r → ((u : List ℕ) × (t ++ u ≡ ds)) ⊎ ((u : List ℕ) × ((0 < length u) × ((ds ++ u ≡ t) × (xs ≡ u ++ r))))
fork [] xs [] r e = inl ([], refl)
fork [] xs (y ∷ t) r e = inr (y ∷ t, (omega arith, (refl, e)))
fork (d ∷ ds) xs [] r e = inl (d ∷ ds, refl)
fork (d ∷ ds) xs (y ∷ t) r e =
    let s = split e in
    ⊎_elim
    (λ (h : (u : List ℕ) × (t ++ u ≡ ds)). inl (h.0, same_cons (sym s.0) h.1))
    (λ (h : (u : List ℕ) × ((0 < length u) × ((ds ++ u ≡ t) × (xs ≡ u ++ r)))). inr (h.0, (h.1.0, (same_cons s.0 h.1.1.0, h.1.1.1))))
    (fork ds xs t r s.1)

take_past : (ds xs : List ℕ) (q : ℕ) → take (length ds + q) (ds ++ xs) ≡ ds ++ take q xs
take_past [] xs q = ap (λ (k : ℕ). take k xs) (zero-add q)
take_past (d ∷ ds) xs q =
    let e : length (d ∷ ds) + q ≡ suc (length ds + q) = omega arith in
    ap (λ (k : ℕ). take k (d ∷ (ds ++ xs))) e ∙ ap (λ (u : List ℕ). d ∷ u) (take_past ds xs q)

first_of : (q : ℕ) (xs rest : List ℕ) → q < length xs → get_or (take (q + 1) xs ++ rest) 0 0 ≡ get_or xs 0 0
first_of q [] rest h = absurd (omega arith)
first_of q (x ∷ xs) rest h = ap (λ (k : ℕ). get_or (take k (x ∷ xs) ++ rest) 0 0) (add-one q)

module _ (most : ℕ) (Rest : List ℕ → Type 0) (ending : Ending Rest) where
  pub starts_number : Starts (NumberThen most Rest) []
  starts_number = record {
    rest = decimal 0 ++ ending.some.rest;
    whole = record { value = 0; fits = omega arith; rest = ending.some.rest; follows = ending.some.whole; is = refl };
  }

  fronts_number : (t : List ℕ) → Starts (NumberThen most Bare) t → Starts (NumberThen most Rest) t ⊎ ((more : List ℕ) → NumberThen most Bare (t ++ more))
  fronts_number t s =
      let w = s.whole in
      let last = ending.some.rest in
      ⊎_elim
      (λ (h : (u : List ℕ) × (t ++ u ≡ decimal w.value)). inl (record {
        rest = h.0 ++ last;
        whole = record {
          value = w.value;
          fits = w.fits;
          rest = last;
          follows = ending.some.whole;
          is = ap (λ (u : List ℕ). u ++ last) (sym h.1) ∙ append_assoc t h.0 last;
        };
      }))
      (λ (h : (u : List ℕ) × ((0 < length u) × ((decimal w.value ++ u ≡ t) × (w.rest ≡ u ++ s.rest)))). inr (λ more. record {
        value = w.value;
        fits = w.fits;
        rest = h.0 ++ more;
        follows =
            let some = h.1.0 in
            let before = get_or_append_left h.0 more 0 0 some in
            let same : get_or w.rest 0 0 ≡ get_or h.0 0 0 = ap (λ (u : List ℕ). get_or u 0 0) h.1.1.1 ∙ get_or_append_left h.0 s.rest 0 0 some in
            record {
              some = omega (arith, length-append h.0 more);
              first = λ d. w.follows.first (subst Digit (before ∙ sym same) d);
            };
        is = sym (append_assoc (decimal w.value) h.0 more) ∙ ap (λ (u : List ℕ). u ++ more) h.1.1.0;
      }))
      (fork (decimal w.value) w.rest t s.rest w.is)

  -- what the number reader refuses breaks off at the same place, whatever follows
  pub narrows_number : Narrows (NumberThen most Bare) (NumberThen most Rest)
  narrows_number = record {
    some = starts_number;
    into = λ t w. record { value = w.value; fits = w.fits; rest = w.rest; follows = ending.bare w.rest w.follows; is = w.is };
    fronts = fronts_number;
  }

  -- after a number, which what follows it cannot lengthen
  module _ (small : most < 2 ^ 32) (v : ℕ) (fits : v ≤ most) (xs : List ℕ) (bare : Digit (get_or xs 0 0) → ⊥) where
    follows : (t : List ℕ) → get_or t 0 0 ≡ get_or xs 0 0 → NumberThen most Rest (decimal v ++ t) → Rest t
    follows t first w =
        let f = w.fits in
        let same = same_front (decimal v) (decimal w.value) t w.rest (decimal_is_IsNumeral v (omega arith)).0.1 (decimal_is_IsNumeral w.value (omega arith)).0.1
        (λ d. bare (subst Digit first d)) (ending.bare w.rest w.follows).first (sym w.is) in
        subst Rest (sym same) w.follows

    pub stops_past : (q : ℕ) → Stops Rest xs q → Stops (NumberThen most Rest) (decimal v ++ xs) (length (decimal v) + q)
    stops_past q s = record {
      within = let w = s.within in omega (arith, length-append (decimal v) xs);
      before = subst (Starts (NumberThen most Rest)) (sym (take_past (decimal v) xs q)) (record {
        rest = s.before.rest;
        whole = record { value = v; fits = fits; rest = take q xs ++ s.before.rest; follows = s.before.whole; is = sym (append_assoc (decimal v) (take q xs) s.before.rest) };
      });
      here = λ h g.
          let low : q < length xs = omega (arith, length-append (decimal v) xs) in
          let k : length (decimal v) + q + 1 ≡ length (decimal v) + (q + 1) = omega arith in
          let longer : Starts (NumberThen most Rest) (decimal v ++ take (q + 1) xs) =
          subst (Starts (NumberThen most Rest)) (ap (λ (n : ℕ). take n (decimal v ++ xs)) k ∙ take_past (decimal v) xs (q + 1)) g in
          s.here low (record {
            rest = longer.rest;
            whole = follows (take (q + 1) xs ++ longer.rest) (first_of q xs longer.rest low)
                (subst (NumberThen most Rest) (append_assoc (decimal v) (take (q + 1) xs) longer.rest) longer.whole);
          });
      unread = λ w. s.unread (follows xs refl w);
    }

-- One space and then a number: the space is not there, the number is not there, or both are.
pub breaks_space : (most : ℕ) (bytes : List ℕ) (column : ℕ) → (0 < length bytes → get_or bytes 0 0 ≡ 32 → ⊥) → Breaks (Spaced most Bare) bytes column (Unreadable column)
breaks_space most bytes column other = record {
  place = 0;
  named = ap Unreadable (sym (add-zero column));
  stops = stops_before 32 (NumberThen most Bare) (starts_number most Bare ending_bare) bytes other;
}

module _ {most : ℕ} {bytes t : List ℕ} (e : bytes ≡ 32 ∷ t) where
  pub breaks_number : (column place : ℕ) → Numberless most t place → Breaks (Spaced most Bare) bytes column (Unreadable (column + place + 1))
  breaks_number column place n = record {
    place = suc place;
    named = let k : column + place + 1 ≡ column + suc place = omega arith in ap Unreadable k;
    stops = subst (λ (u : List ℕ). Stops (Spaced most Bare) u (suc place)) (sym e) (stops_after 32 (NumberThen most Bare) t place n.stops);
  }

  pub spaced : (v end : ℕ) → Numbered most t v end → SpacedNumber most bytes v (end + 1)
  spaced v end n =
      let at : get_or bytes (end + 1) 0 ≡ get_or t end 0 = ap (λ (u : List ℕ). get_or u (end + 1) 0) e ∙ ap (λ (k : ℕ). get_or (32 ∷ t) k 0) (add-one end) in
      let l = ap length e in
      let w = n.within in
      let s = n.short in
      record {
        fits = n.fits;
        short = omega arith;
        within = omega arith;
        is = ap (take (end + 1)) e ∙ ap (λ (k : ℕ). take k (32 ∷ t)) (add-one end) ∙ ap (λ (u : List ℕ). 32 ∷ u) n.is;
        after = λ d. n.after (subst Digit at d);
      }

pub spaced_is : {most : ℕ} {bytes : List ℕ} {v end : ℕ} → SpacedNumber most bytes v end → 32 ∷ (decimal v ++ drop end bytes) ≡ bytes
spaced_is {bytes = bytes} {end = end} n = ap (λ (u : List ℕ). u ++ drop end bytes) (sym n.is) ∙ take-append-drop end bytes

-- one space, a number, and then a text of Rest
module _ {Rest : List ℕ → Type 0} (ending : Ending Rest) {most : ℕ} {bytes : List ℕ} {column : ℕ} {reason : Refusal} where
  -- what is refused in front of any byte that is no digit breaks off at the same place in front of Rest
  pub breaks_in : Breaks (Spaced most Bare) bytes column reason → Breaks (Spaced most Rest) bytes column reason
  breaks_in b = record {
    place = b.place;
    named = b.named;
    stops = stops_narrow (Spaced most Bare) (Spaced most Rest) (narrows_after (NumberThen most Bare) (NumberThen most Rest) (narrows_number most Rest ending) 32) bytes b.place b.stops;
  }

  -- the space and the number are there, and what follows is no text of Rest
  pub breaks_past : {v past : ℕ} {left : List ℕ} → Passes most bytes column v left past → most < 2 ^ 32 → Breaks Rest left past reason → Breaks (Spaced most Rest) bytes column reason
  breaks_past {v = v} {past = past} passes small b =
      let n = passes.number in
      let end = passes.end in
      let w = n.within in
      let taken : length (take end bytes) ≡ end = simp length-take (omega arith) in
      let long : suc (length (decimal v) + b.place) ≡ end + b.place = omega (arith, ap length n.is) in
      let first : get_or (drop end bytes) 0 0 ≡ get_or bytes end 0 = get_or-drop end bytes 0 0 ∙ ap (λ (k : ℕ). get_or bytes k 0) (add-zero end) in
      let stops = subst (λ (u : List ℕ). Stops Rest u b.place) passes.behind b.stops in
      let beyond = stops_past most Rest ending small v n.fits (drop end bytes) (λ d. n.after (subst Digit first d)) b.place stops in
      let at = passes.at in
      let k : past + b.place ≡ column + (end + b.place) = omega arith in
      record {
        place = end + b.place;
        named = b.named ∙ ap Unreadable k;
        stops = subst (λ (u : List ℕ). Stops (Spaced most Rest) u (end + b.place)) (spaced_is n)
            (subst (Stops (Spaced most Rest) (32 ∷ (decimal v ++ drop end bytes))) long (stops_after 32 (NumberThen most Rest) _ _ beyond));
      }
