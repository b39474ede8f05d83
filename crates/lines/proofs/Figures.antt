-- Numbers in front of bytes: what the loop of the number reader knows, and where bytes break off before and in a number.
use Rattle.std.proofs.Common.{◌≡◌, ℕ, ◌+◌, ◌-◌, ◌*◌, ◌/◌, ◌%◌, ◌^◌, ◌<◌, ◌≤◌, ◌≢◌, List, [], ◌∷◌, ◌++◌, length, get_or, take, drop, Some, None, Err, unwrap_or, decimal, Option, Result, sym, refl, ap, ◌∙◌, subst, ⊎_elim, append-nil, arith, length-append, take-append-drop, length-take, take_all, get_or-take}
use Rattle.std.specs.Str.Parse.{AllDigits, digits_value, digits_value_after}
use Rattle.std.specs.Char.{digit_value}
use Rattle.std.specs.Option.{ok_or}
use Rattle.std.proofs.lemmas.Fmt.{decimal_is_IsNumeral, decimal_digit, decimal_step, decimal_nonempty, first_decimal, length-decimal-le}
use Rattle.std.proofs.lemmas.Int.Digits.{digits_value_more, digits_more}
use Rattle.std.proofs.lemmas.List.{take_more, get_or_append_left}
use Rattle.std.proofs.lemmas.Str.Parse.{digit_from_value, digit_at}
use Rattle.std.proofs.lemmas.Bool.{cases_eq, cases_lt}
use Rattle.std.proofs.lemmas.Option.{none-some}
use Rattle.std.proofs.lemmas.Bool.Decides.{nat_tests}
use Rattle.lines.specs.Numbers.{Digit, Bare, NumberThen, Numbered, Numberless}
use Rattle.lines.specs.Texts.{Starts}
use Rattle.lines.proofs.Languages.{split, same_cons}

digit_is : (b : ℕ) → Digit b → digit_value b ≡ b - 48
digit_is b d = let low = d.0 in let high = d.1 in grind (arith, nat_tests)

-- more digits make no smaller number
after_ge : (m : ℕ) (ys : List ℕ) → m ≤ digits_value_after 10 m ys
after_ge m [] = omega arith
after_ge m (y ∷ ys) = let h = after_ge (m * 10 + digit_value y) ys in omega arith

after_append : (m : ℕ) (xs ys : List ℕ) → digits_value_after 10 m (xs ++ ys) ≡ digits_value_after 10 (digits_value_after 10 m xs) ys
after_append m [] ys = refl
after_append m (x ∷ xs) ys = after_append (m * 10 + digit_value x) xs ys

-- digits in front stand in the number, where what follows the number begins with none
front : (ds rest es ys : List ℕ) → AllDigits 10 ds → Bare ys → ds ++ rest ≡ es ++ ys → (more : List ℕ) × (ds ++ more ≡ es)
front [] rest es ys digits bare e = (es, refl)
front (d ∷ ds) rest [] ys digits bare e =
    let first : d ≡ get_or ys 0 0 = ap (λ (u : List ℕ). get_or u 0 0) e in
    let is = digit_from_value d digits.0 in
    absurd (bare.first (subst Digit first is))
front (d ∷ ds) rest (c ∷ es) ys digits bare e =
    let s = split e in
    let r = front ds rest es ys digits.1 bare s.1 in
    (r.0, same_cons s.0 r.1)

-- digits up to a byte that is none are told apart in one way only
pub same_front : (ds es xs ys : List ℕ) → AllDigits 10 ds → AllDigits 10 es → (Digit (get_or xs 0 0) → ⊥) → (Digit (get_or ys 0 0) → ⊥) → ds ++ xs ≡ es ++ ys → xs ≡ ys
same_front [] [] xs ys p q bare other e = e
same_front [] (c ∷ es) xs ys p q bare other e =
    let is = digit_from_value c q.0 in
    let first : get_or xs 0 0 ≡ c = ap (λ (u : List ℕ). get_or u 0 0) e in
    absurd (bare (subst Digit (sym first) is))
same_front (d ∷ ds) [] xs ys p q bare other e =
    let is = digit_from_value d p.0 in
    let first : d ≡ get_or ys 0 0 = ap (λ (u : List ℕ). get_or u 0 0) e in
    absurd (other (subst Digit first is))
same_front (d ∷ ds) (c ∷ es) xs ys p q bare other e = same_front ds es xs ys p.1 q.1 bare other (split e).1

-- some number begins with the bytes
record Begun (most : ℕ) (bytes : List ℕ) : Type 0 where
  number : ℕ
  fits : number ≤ most
  rest : List ℕ
  is : bytes ++ rest ≡ decimal number

-- What the reader knows before place i, with the value v so far: the bytes before i are v as it is written.
pub record Sofar (most : ℕ) (bytes : List ℕ) (i v : ℕ) : Type 0 where
  pub fits : v ≤ most
  pub start : i ≡ 0 → v ≡ 0
  pub is : 0 < i → take i bytes ≡ decimal v

pub bare_end : Bare (10 ∷ [])
bare_end = record { some = omega arith; first = λ d. let h = d.0 in omega arith }

module _ {most : ℕ} {bytes : List ℕ} {i v : ℕ} (so : Sofar most bytes i v) (small : most < 2 ^ 32) where
  digits : AllDigits 10 (take i bytes)
  digits = ⊎_elim
      (λ (z : i ≡ 0). subst (λ (k : ℕ). AllDigits 10 (take k bytes)) (sym z) tt)
      (λ (z : i ≡ 0 → ⊥). let f = so.fits in subst (AllDigits 10) (sym (so.is (omega arith))) (decimal_is_IsNumeral v (omega arith)).0.1)
      (cases_eq i 0)

  short : i ≤ length bytes → i ≤ 10
  short h = ⊎_elim
      (λ (z : i ≡ 0). omega arith)
      (λ (z : i ≡ 0 → ⊥).
      let f = so.fits in
      let few = length-decimal-le 10 v (omega arith) (omega arith) (omega arith) in
      let l : length (take i bytes) ≡ i = simp length-take (omega arith) in
      omega (arith, ap length (so.is (omega arith))))
      (cases_eq i 0)

  starts : Starts (NumberThen most Bare) (take i bytes)
  starts = ⊎_elim
      (λ (z : i ≡ 0). subst (λ (k : ℕ). Starts (NumberThen most Bare) (take k bytes)) (sym z) (record {
        rest = decimal 0 ++ (10 ∷ []);
        whole = record { value = 0; fits = omega arith; rest = 10 ∷ []; follows = bare_end; is = refl };
      }))
      (λ (z : i ≡ 0 → ⊥). record {
        rest = 10 ∷ [];
        whole = record { value = v; fits = so.fits; rest = 10 ∷ []; follows = bare_end; is = ap (λ (u : List ℕ). u ++ (10 ∷ [])) (sym (so.is (omega arith))) };
      })
      (cases_eq i 0)

  -- all the bytes are digits
  pub numberless_ended : i ≡ length bytes → Numberless most bytes i
  numberless_ended last = record {
    short = short (omega arith);
    stops = record {
      within = omega arith;
      before = starts;
      here = λ h g. absurd (omega arith);
      unread = λ w.
          let whole : take i bytes ≡ bytes = take_all i bytes (omega arith) in
          let f = front bytes [] (decimal w.value) w.rest (subst (AllDigits 10) whole digits) w.follows (append-nil bytes ∙ sym w.is) in
          let some = w.follows.some in
          omega (arith, ap length f.1, length-append bytes f.0, ap length w.is, length-append (decimal w.value) w.rest);
    };
  }

  module _ (h : i < length bytes) where
    numberless_at : (Starts (NumberThen most Bare) (take (i + 1) bytes) → ⊥) → Numberless most bytes i
    numberless_at none = record {
      short = short (omega arith);
      stops = record {
        within = omega arith;
        before = starts;
        here = λ _ g. none g;
        unread = λ w. none (record { rest = drop (i + 1) bytes; whole = subst (NumberThen most Bare) (sym (take-append-drop (i + 1) bytes)) w });
      };
    }

    -- no digit stands in front
    pub numberless_first : i ≡ 0 → (Digit (get_or bytes i 0) → ⊥) → Numberless most bytes i
    numberless_first first bare = numberless_at (λ g.
        let w = g.whole in
        let f = w.fits in
        let some = decimal_nonempty w.value (omega arith) in
        let l : 0 < length (take (i + 1) bytes) = simp length-take (omega arith) in
        let d = digit_at (decimal w.value) 0 (decimal_is_IsNumeral w.value (omega arith)).0.1 some in
        let same : get_or (decimal w.value) 0 0 ≡ get_or bytes 0 0 =
        sym (get_or_append_left (decimal w.value) w.rest 0 0 some)
        ∙ ap (λ (u : List ℕ). get_or u 0 0) w.is
        ∙ get_or_append_left (take (i + 1) bytes) g.rest 0 0 l
        ∙ get_or-take (i + 1) bytes 0 0 (omega arith) in
        let at : get_or bytes 0 0 ≡ get_or bytes i 0 = ap (λ (k : ℕ). get_or bytes k 0) (sym first) in
        bare (subst Digit (same ∙ at) d))

    -- a digit stands at i
    module _ (digit : Digit (get_or bytes i 0)) where
      begun : Starts (NumberThen most Bare) (take (i + 1) bytes) → Begun most (take (i + 1) bytes)
      begun g =
          let w = g.whole in
          let low = digit.0 in
          let high = digit.1 in
          let f = front (take (i + 1) bytes) g.rest (decimal w.value) w.rest (digits_more 10 bytes i h digits (omega (arith, digit_is _ digit))) w.follows (sym w.is) in
          record { number = w.value; fits = w.fits; rest = f.0; is = f.1 }

      module _ (g : Begun most (take (i + 1) bytes)) where
        whole : g.number < 2 ^ 64
        whole = let f = g.fits in omega arith

        long : i < length (decimal g.number)
        long =
            let l : length (take (i + 1) bytes) ≡ i + 1 = simp length-take (omega arith) in
            omega (arith, ap length g.is, length-append (take (i + 1) bytes) g.rest)

        -- a number of more than one digit does not begin with 0
        lead : 0 < i → v ≡ 0 → ⊥
        lead more none =
            let zero_is : decimal 0 ≡ 48 ∷ [] = decimal_digit 0 (omega arith) in
            let before : take i bytes ≡ 48 ∷ [] = so.is more ∙ ap decimal none ∙ zero_is in
            let l : 0 < length (take (i + 1) bytes) = simp length-take (omega arith) in
            let first : get_or bytes 0 0 ≡ 48 = sym (get_or-take i bytes 0 0 more) ∙ ap (λ (u : List ℕ). get_or u 0 0) before in
            let same : get_or (decimal g.number) 0 0 ≡ get_or bytes 0 0 =
            ap (λ (u : List ℕ). get_or u 0 0) (sym g.is) ∙ get_or_append_left (take (i + 1) bytes) g.rest 0 0 l ∙ get_or-take (i + 1) bytes 0 0 (omega arith) in
            let t = long in
            ⊎_elim
            (λ (z : g.number ≡ 0). let one : length (decimal g.number) ≡ 1 = ap (λ (n : ℕ). length (decimal n)) z ∙ ap length zero_is in omega arith)
            (λ (z : g.number ≡ 0 → ⊥). let f = first_decimal g.number (omega arith) whole in omega arith)
            (cases_eq g.number 0)

        -- with this digit every number is above the limit
        over : most < v * 10 + (get_or bytes i 0 - 48) → ⊥
        over large =
            let low = digit.0 in
            let high = digit.1 in
            let f = so.fits in
            let before : digits_value 10 (take i bytes) ≡ v = ⊎_elim
            (λ (z : i ≡ 0). ap (λ (k : ℕ). digits_value 10 (take k bytes)) z ∙ sym (so.start z))
            (λ (z : i ≡ 0 → ⊥). ap (digits_value 10) (so.is (omega arith)) ∙ (decimal_is_IsNumeral v (omega arith)).1)
            (cases_eq i 0) in
            let more = digits_value_more 10 bytes i h in
            let last = digit_is (get_or bytes i 0) digit in
            let ge = after_ge (digits_value 10 (take (i + 1) bytes)) g.rest in
            let all : digits_value 10 (take (i + 1) bytes ++ g.rest) ≡ g.number = ap (digits_value 10) g.is ∙ (decimal_is_IsNumeral g.number whole).1 in
            let joined = after_append 0 (take (i + 1) bytes) g.rest in
            let limit = g.fits in
            omega arith

      -- no digit can be added
      pub numberless_grown : ((0 < i → 0 < v) × (v * 10 + (get_or bytes i 0 - 48) ≤ most) → ⊥) → Numberless most bytes i
      numberless_grown none = numberless_at (λ g.
          let b = begun g in
          none (
            λ more. ⊎_elim (λ (z : v ≡ 0). absurd (lead b more z)) (λ (z : v ≡ 0 → ⊥). omega arith) (cases_eq v 0),
            ⊎_elim (λ large. absurd (over b large)) (λ room. room) (cases_lt most (v * 10 + (get_or bytes i 0 - 48))),
          ))

      -- with one digit more
      pub sofar_grown : (0 < i → 0 < v) × (v * 10 + (get_or bytes i 0 - 48) ≤ most) → Sofar most bytes (i + 1) (v * 10 + (get_or bytes i 0 - 48))
      sofar_grown room =
          let low = digit.0 in
          let high = digit.1 in
          let b : get_or bytes i 0 ≡ 48 + (get_or bytes i 0 - 48) = omega arith in
          record {
            fits = room.1;
            start = λ e. absurd (omega arith);
            is = λ _. ⊎_elim
                (λ (z : i ≡ 0).
                let n = so.start z in
                let v_is : v * 10 + (get_or bytes i 0 - 48) ≡ get_or bytes i 0 - 48 = omega arith in
                take_more bytes i 0 h
                ∙ ap (λ (k : ℕ). take k bytes ++ (get_or bytes i 0 ∷ [])) z
                ∙ ap (λ (x : ℕ). x ∷ []) b
                ∙ sym (decimal_digit (get_or bytes i 0 - 48) (omega arith))
                ∙ ap decimal (sym v_is))
                (λ (z : i ≡ 0 → ⊥).
                let some : 0 < v = room.0 (omega arith) in
                let tens : (v * 10 + (get_or bytes i 0 - 48)) / 10 ≡ v = omega arith in
                let ones : (v * 10 + (get_or bytes i 0 - 48)) % 10 ≡ get_or bytes i 0 - 48 = omega arith in
                take_more bytes i 0 h
                ∙ ap (λ (u : List ℕ). u ++ (get_or bytes i 0 ∷ [])) (so.is (omega arith))
                ∙ ap (λ (x : ℕ). decimal v ++ (x ∷ [])) (b ∙ ap (λ (x : ℕ). 48 + x) (sym ones))
                ∙ ap (λ (x : ℕ). decimal x ++ ((48 + (v * 10 + (get_or bytes i 0 - 48)) % 10) ∷ [])) (sym tens)
                ∙ sym (decimal_step (v * 10 + (get_or bytes i 0 - 48)) (omega arith) (omega arith)))
                (cases_eq i 0);
          }

    -- the byte at i ends the number
    pub numbered : 0 < i → (Digit (get_or bytes i 0) → ⊥) → Numbered most bytes v i
    numbered some bare = record { fits = so.fits; short = short (omega arith); within = h; is = so.is some; after = bare }

-- What the reader knows before place i: no number before the first digit.
pub record Read (most : ℕ) (bytes : List ℕ) (i : ℕ) (value : Option ℕ) : Type 0 where
  pub so : Sofar most bytes i (unwrap_or value 0)
  pub none : i ≡ 0 → value ≡ None
  pub some : 0 < i → value ≡ Some (unwrap_or value 0)

-- no value is refused with what stands in for it
pub refused_at : {o : Option ℕ} {i e : ℕ} → o ≡ None → Err e ≡ ok_or o i → e ≡ i
refused_at {i = i} {e = e} none is = let err : ◌≡◌ {A = Result ℕ ℕ} (Err e) (Err i) = rw none at is in cc

module _ {most : ℕ} {bytes : List ℕ} {i : ℕ} {value : Option ℕ} (read : Read most bytes i value) (small : most < 2 ^ 32) (h : i < length bytes) where
  -- before the first digit a byte stands that is none
  pub read_none : value ≡ None → (Digit (get_or bytes i 0) → ⊥) → Numberless most bytes i
  read_none none bare = numberless_first read.so small h
      (⊎_elim (λ (z : i ≡ 0). z) (λ (z : i ≡ 0 → ⊥). absurd (none-some _ (sym none ∙ read.some (omega arith)))) (cases_eq i 0)) bare

  -- behind a digit a byte stands that is none
  pub read_number : (n : ℕ) → value ≡ Some n → (Digit (get_or bytes i 0) → ⊥) → Numbered most bytes n i
  read_number n some bare =
      let more : 0 < i = ⊎_elim (λ (z : i ≡ 0). absurd (none-some _ (sym (read.none z) ∙ some))) (λ (z : i ≡ 0 → ⊥). omega arith) (cases_eq i 0) in
      subst (λ (v : Option ℕ). Numbered most bytes (unwrap_or v 0) i) some (numbered read.so small h more bare)

  module _ (digit : Digit (get_or bytes i 0)) where
    pub read_more : (n : ℕ) → (value ≢ Some 0) × (unwrap_or value 0 * 10 + (get_or bytes i 0 - 48) ≤ most) → n ≡ unwrap_or value 0 * 10 + (get_or bytes i 0 - 48) → Read most bytes (i + 1) (Some n)
    read_more n room is = record {
      so = subst (Sofar most bytes (i + 1)) (sym is) (sofar_grown read.so small h digit
          (λ more. ⊎_elim (λ (z : unwrap_or value 0 ≡ 0). absurd (room.0 (read.some more ∙ ap Some z))) (λ (z : unwrap_or value 0 ≡ 0 → ⊥). omega arith) (cases_eq (unwrap_or value 0) 0), room.1));
      none = λ z. absurd (omega arith);
      some = λ _. refl;
    }

    pub read_over : ((value ≢ Some 0) × (unwrap_or value 0 * 10 + (get_or bytes i 0 - 48) ≤ most) → ⊥) → Numberless most bytes i
    read_over none = numberless_grown read.so small h digit (λ room. none
        (λ zero. ⊎_elim (λ (z : i ≡ 0). none-some _ (sym (read.none z) ∙ zero)) (λ (z : i ≡ 0 → ⊥). let some = room.0 (omega arith) in let v : unwrap_or value 0 ≡ 0 = ap (λ (o : Option ℕ). unwrap_or o 0) zero in omega arith) (cases_eq i 0), room.1))
