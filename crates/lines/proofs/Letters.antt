-- Readable lines by their letter: where bytes break off as a line, from where what follows the letter does.
use Rattle.std.proofs.Common.{◌≡◌, ℕ, suc, ◌+◌, ◌-◌, ◌<◌, ◌≤◌, cond, eqb, List, [], ◌∷◌, ◌++◌, length, get_or, take, drop, decimal, Ok, Err, Result, MatchResult, IsOkAnd, sym, refl, ap, ◌∙◌, subst, arith}
use Rattle.std.specs.Result.{result_and}
use Rattle.std.proofs.lemmas.List.{get_or_past}
use Rattle.std.proofs.lemmas.Bool.{ne_eqb}
use Rattle.tables.specs.declared.refusals.Refusal.{Refusal}
use Rattle.tables.specs.declared.refusals.Refusal.TheVariants.{Unreadable}
use Rattle.lines.specs.declared.line.Line.{Line}
use Rattle.lines.specs.declared.line.Line.TheVariants.{Open, Admit, Withdraw, Make, Largest, Gaps}
use Rattle.lines.specs.Lines.{text, Fits, Spells, Readable, Unread, Reads}
use Rattle.lines.specs.Tails.{End, Spaced, LastNumber, Breaks}
use Rattle.lines.specs.Texts.{Starts, Stops}
use Rattle.lines.proofs.Languages.{split, never, parted, stops_under}

abbrev pub letter : Line → ℕ
letter (Open base) = 66
letter (Admit size) = 65
letter (Withdraw size) = 87
letter (Make load) = 77
letter Largest = 76
letter Gaps = 71

abbrev pub tail : Line → List ℕ
tail (Open base) = 32 ∷ (decimal base ++ (10 ∷ []))
tail (Admit size) = 32 ∷ (decimal size ++ (10 ∷ []))
tail (Withdraw size) = 32 ∷ (decimal size ++ (10 ∷ []))
tail (Make load) = 32 ∷ (decimal load ++ (10 ∷ []))
tail Largest = 10 ∷ []
tail Gaps = 10 ∷ []

text_is : (line : Line) → text line ≡ letter line ∷ tail line
text_is (Open base) = refl
text_is (Admit size) = refl
text_is (Withdraw size) = refl
text_is (Make load) = refl
text_is Largest = refl
text_is Gaps = refl

-- the language of a number and the end of the line
abbrev Numeric : List ℕ → Type 0
Numeric = Spaced 4294967295 End

-- the language of what follows a letter; no text where no line has the letter
abbrev Tail : ℕ → List ℕ → Type 0
Tail x =
    cond (eqb x 66) Numeric
    (cond (eqb x 65) Numeric
    (cond (eqb x 87) Numeric
    (cond (eqb x 77) Numeric
    (cond (eqb x 76) End
    (cond (eqb x 71) End (λ t. ⊥))))))

numeric : (n : ℕ) → n ≤ 4294967295 → Numeric (32 ∷ (decimal n ++ (10 ∷ [])))
numeric n fits = record { rest = decimal n ++ (10 ∷ []); follows = record { value = n; fits = fits; rest = 10 ∷ []; follows = refl; is = refl }; is = refl }

sorts : (line : Line) → Fits line → Tail (letter line) (tail line)
sorts (Open base) fits = numeric base fits
sorts (Admit size) fits = numeric size fits
sorts (Withdraw size) fits = numeric size fits
sorts (Make load) fits = numeric load fits
sorts Largest fits = refl
sorts Gaps fits = refl

from_line : (x : ℕ) (t : List ℕ) → Readable (x ∷ t) → Tail x t
from_line x t r =
    let s = split (sym (text_is r.line) ∙ r.spells.is) in
    subst (λ (y : ℕ). Tail y t) s.0 (subst (Tail (letter r.line)) s.1 (sorts r.line r.spells.fits))

-- x is the letter of the lines that mk makes of a number
pub record WithNumber (x : ℕ) (mk : ℕ → Line) : Type 0 where
  pub fits : (n : ℕ) → n ≤ 4294967295 → Fits (mk n)
  pub spelled : (n : ℕ) → text (mk n) ≡ x ∷ (32 ∷ (decimal n ++ (10 ∷ [])))
  pub behind : (t : List ℕ) → Tail x t → Numeric t

pub open_letter : WithNumber 66 Open
open_letter = record { fits = λ n h. h; spelled = λ n. refl; behind = λ t h. h }

pub admit_letter : WithNumber 65 Admit
admit_letter = record { fits = λ n h. h; spelled = λ n. refl; behind = λ t h. h }

pub withdraw_letter : WithNumber 87 Withdraw
withdraw_letter = record { fits = λ n h. h; spelled = λ n. refl; behind = λ t h. h }

pub make_letter : WithNumber 77 Make
make_letter = record { fits = λ n h. h; spelled = λ n. refl; behind = λ t h. h }

-- x is the letter of a line that has nothing else
pub record Alone (x : ℕ) (line : Line) : Type 0 where
  pub fits : Fits line
  pub spelled : text line ≡ x ∷ (10 ∷ [])
  pub behind : (t : List ℕ) → Tail x t → End t

pub largest_letter : Alone 76 Largest
largest_letter = record { fits = tt; spelled = refl; behind = λ t h. h }

pub gaps_letter : Alone 71 Gaps
gaps_letter = record { fits = tt; spelled = refl; behind = λ t h. h }

number_spells : {x : ℕ} {mk : ℕ → Line} → WithNumber x mk → (t : List ℕ) (n : ℕ) → LastNumber 4294967295 t n → Spells (x ∷ t) (mk n)
number_spells {x = x} sort t n last = record { fits = sort.fits n last.fits; is = sort.spelled n ∙ ap (λ (u : List ℕ). x ∷ u) last.is }

alone_spells : {x : ℕ} {line : Line} → Alone x line → (t : List ℕ) → End t → Spells (x ∷ t) line
alone_spells {x = x} alone t end = record { fits = alone.fits; is = alone.spelled ∙ ap (λ (u : List ℕ). x ∷ u) (sym end) }

-- a number and the end of the line are the last number
last_of : (t : List ℕ) → Numeric t → (n : ℕ) × LastNumber 4294967295 t n
last_of t a =
    let n = a.follows in
    (n.value, record { fits = n.fits; is = ap (λ (u : List ℕ). 32 ∷ u) (ap (λ (u : List ℕ). decimal n.value ++ u) (sym n.follows) ∙ n.is) ∙ a.is })

-- Columns count from 1, so that what follows the letter begins at column 2.
unread : (x : ℕ) (Rest : List ℕ → Type 0) → ((t : List ℕ) → Rest t → Readable (x ∷ t)) → ((t : List ℕ) → Tail x t → Rest t) → (t : List ℕ) (reason : Refusal) → Breaks Rest t 2 reason → Unread (x ∷ t) reason
unread x Rest to behind t reason b = record {
  column = 2 + b.place;
  named = b.named;
  from = omega arith;
  stops =
      let k : suc b.place ≡ 2 + b.place - 1 = omega arith in
      subst (Stops Readable (x ∷ t)) k (stops_under Readable Rest x to (λ u r. behind u (from_line x u r)) t b.place b.stops);
}

starts_line : Starts Readable []
starts_line = record { rest = 76 ∷ (10 ∷ []); whole = record { line = Largest; spells = alone_spells largest_letter (10 ∷ []) refl } }

-- the bytes begin with no letter of a line
unread_first : (bytes : List ℕ) → ((t : List ℕ) → Tail (get_or bytes 0 0) t → ⊥) → Unread bytes (Unreadable 1)
unread_first bytes none = record { column = 1; named = refl; from = omega arith; stops = stops_first bytes none }
  where
    stops_first : (bytes : List ℕ) → ((t : List ℕ) → Tail (get_or bytes 0 0) t → ⊥) → Stops Readable bytes 0
    stops_first [] none = record {
      within = omega arith;
      before = starts_line;
      here = λ h g. absurd (omega arith);
      unread = λ r. never (sym (text_is r.line) ∙ r.spells.is);
    }
    stops_first (x ∷ t) none = record {
      within = omega arith;
      before = starts_line;
      here = λ h g. none _ (from_line x _ g.whole);
      unread = λ r. none t (from_line x t r);
    }

pub unread_other : (bytes : List ℕ) → (get_or bytes 0 0 ≡ 66 → ⊥) → (get_or bytes 0 0 ≡ 65 → ⊥) → (get_or bytes 0 0 ≡ 87 → ⊥) → (get_or bytes 0 0 ≡ 77 → ⊥) → (get_or bytes 0 0 ≡ 76 → ⊥) → (get_or bytes 0 0 ≡ 71 → ⊥) → Unread bytes (Unreadable 1)
unread_other bytes not_open not_admit not_withdraw not_make not_largest not_gaps =
    let o = ne_eqb (get_or bytes 0 0) 66 not_open in
    let a = ne_eqb (get_or bytes 0 0) 65 not_admit in
    let w = ne_eqb (get_or bytes 0 0) 87 not_withdraw in
    let m = ne_eqb (get_or bytes 0 0) 77 not_make in
    let l = ne_eqb (get_or bytes 0 0) 76 not_largest in
    let g = ne_eqb (get_or bytes 0 0) 71 not_gaps in
    unread_first bytes (λ t h. rw (o, a, w, m, l, g) at h)

pub unread_empty : (bytes : List ℕ) → length bytes < 1 → Unread bytes (Unreadable 1)
unread_empty bytes none =
    let past = get_or_past bytes 0 0 (omega arith) in
    unread_other bytes (λ e. omega arith) (λ e. omega arith) (λ e. omega arith) (λ e. omega arith) (λ e. omega arith) (λ e. omega arith)

-- A line is made of what is read behind its letter, from column 2 on, and what breaks off there breaks off as a line.
module _ (bytes : List ℕ) {t : List ℕ} {column : ℕ} (some : 0 < length bytes) (left : t ≡ take (length bytes - 1) (drop 1 bytes)) (second : column ≡ 2) (x : ℕ) (first : get_or bytes 0 0 ≡ x) where
  whole : bytes ≡ x ∷ t
  whole = parted x some first ∙ ap (λ (u : List ℕ). x ∷ u) (sym left)

  pub reads_number : {mk : ℕ → Line} → WithNumber x mk → (number : Result ℕ Refusal) (line : Result Line Refusal) → MatchResult number (LastNumber 4294967295 t) (Breaks Numeric t column)
      → MatchResult number (λ n. IsOkAnd line (λ l. l ≡ mk n)) (λ reason. line ≡ Err reason) → Reads bytes line
  reads_number sort (Ok n) (Ok l) told made = subst (λ (u : List ℕ). Spells u l) (sym whole) (subst (Spells (x ∷ t)) (sym made) (number_spells sort t n told))
  reads_number sort (Ok n) (Err reason) told made = absurd made
  reads_number {mk = mk} sort (Err reason) line told made =
      let to : (u : List ℕ) → Numeric u → Readable (x ∷ u) = λ u a. let n = last_of u a in record { line = mk n.0; spells = number_spells sort u n.0 n.1 } in
      subst (Reads bytes) (sym made) (subst (λ (u : List ℕ). Unread u reason) (sym whole)
      (unread x Numeric to sort.behind t reason (subst (λ (k : ℕ). Breaks Numeric t k reason) second told)))

  pub reads_alone : {line : Line} → Alone x line → (ended : Result (Unit {0}) Refusal) → MatchResult ended (λ _. End t) (Breaks End t column) → Reads bytes (result_and ended (Ok line))
  reads_alone {line = line} alone (Ok done) told = subst (λ (u : List ℕ). Spells u line) (sym whole) (alone_spells alone t told)
  reads_alone {line = line} alone (Err reason) told =
      let to : (u : List ℕ) → End u → Readable (x ∷ u) = λ u e. record { line = line; spells = alone_spells alone u e } in
      subst (λ (u : List ℕ). Unread u reason) (sym whole) (unread x End to alone.behind t reason (subst (λ (k : ℕ). Breaks End t k reason) second told))
