-- The lowest present entry of a ring, found one remainder after another.
use Rattle.std.proofs.Common.{◌≡◌, ℕ, zero, suc, ◌+◌, ◌-◌, ◌*◌, ◌/◌, ◌%◌, ◌<◌, ◌≤◌, min, ◌⊎◌, List, [], ◌++◌, length, get_or, Some, None, Option, sym, ap, ◌∙◌, subst, inl, inr, mod-lt, mod-eq_of_lt, suc-mul, zero-mul, append_assoc, length-append, arith}
use Rattle.std.proofs.Math.ListN.{get_or-append}
use Rattle.std.proofs.Math.Nat.{add-mul-mod_self_right}
use Rattle.std.proofs.lemmas.List.{get_or-append-add}
use native.Mathlib.Nat.{mod-mod_of_dvd, dvd_of_mod-eq-zero}
use Rattle.std.proofs.lemmas.Bool.{cases_lt}
use Rattle.tables.proofs.Present.{entry_cases, same_entry, not_both}
use Rattle.books.specs.Rings.{Lowest, lesser_entry}
use Rattle.tables.specs.Tables.{entry_of}
use Rattle.tables.specs.Tests.{Leaves}
use Rattle.books.proofs.Mods.{apart, class_below}

-- What the lowest entry of the ring of s is as far as the entries below t say.
abbrev pub LowestBelow : ℕ → ℕ → ℕ → ℕ → (ℕ → Option ℕ) → Option ℕ → Type 0
LowestBelow m d s t entry None = (r : ℕ) → r < t → r % d ≡ s → entry r ≡ None
LowestBelow m d s t entry (Some n) =
    (entry (n % m) ≡ Some n) × (n % d ≡ s) × ((r e : ℕ) → r < t → r % d ≡ s → entry r ≡ Some e → n ≤ e)

-- of the numbers from t on and below t + d only t leaves what t leaves
next_place : (d t r : ℕ) → t ≤ r → r < t + d → r % d ≡ t % d → r ≡ t
next_place d t r p q e = go (r / d - t / d) (apart d r t e p)
  where
    go : (k : ℕ) → r ≡ t + k * d → r ≡ t
    go zero h = omega (arith, h, zero-mul d)
    go (suc k) h = absurd (omega (arith, h, suc-mul k d))

module _ (m d s t : ℕ) (entry : ℕ → Option ℕ) (leaves : Leaves m entry) (whole : m % d ≡ 0) (at : t % d ≡ s) where
  -- an entry of the ring is a load of the ring
  class_of : (r n : ℕ) → entry r ≡ Some n → r % d ≡ s → n % d ≡ s
  class_of r n p c = sym (mod-mod_of_dvd d n (dvd_of_mod-eq-zero d whole)) ∙ ap (λ (z : ℕ). z % d) (leaves r n p) ∙ c

  before : (r : ℕ) → r < t + d → r % d ≡ s → (r < t) ⊎ (r ≡ t)
  before r h c = elim (cases_lt r t) [ inl l ↦ inl l | inr g ↦ inr (next_place d t r g h (c ∙ sym at)) ]

  -- an entry at t is the lowest below t + d where none below t is less
  newest : (n : ℕ) → entry t ≡ Some n → ((r e : ℕ) → r < t → r % d ≡ s → entry r ≡ Some e → n ≤ e) → LowestBelow m d s (t + d) entry (Some n)
  newest n p least = (
    ap entry (leaves t n p) ∙ p,
    class_of t n p at,
    λ r e l c q. elim (before r l c) [
      | inl k ↦ least r e k c q
      | inr k ↦ omega (arith, same_entry (entry t) n e p (ap entry (sym k) ∙ q))
    ],
  )

  -- the lowest below t stays it below t + d where no entry at t is less
  older : (n : ℕ) → LowestBelow m d s t entry (Some n) → ((e : ℕ) → entry t ≡ Some e → n ≤ e) → LowestBelow m d s (t + d) entry (Some n)
  older n low least = (
    low.0,
    low.1,
    λ r e l c q. elim (before r l c) [ inl k ↦ low.2 r e k c q | inr k ↦ least e (ap entry (sym k) ∙ q) ],
  )

  -- the lowest below t and what stands at t give the lowest below t + d
  pub lowest_more : (low v : Option ℕ) → entry t ≡ v → LowestBelow m d s t entry low → LowestBelow m d s (t + d) entry (lesser_entry low v)
  lowest_more None None p none =
      λ r l c. elim (before r l c) [ inl k ↦ none r k c | inr k ↦ ap entry k ∙ p ]
  lowest_more None (Some n) p none = newest n p (λ r e l c q. absurd (not_both (entry r) e q (none r l c)))
  lowest_more (Some n) None p low = older n low (λ e q. absurd (not_both (entry t) e q p))
  lowest_more (Some n) (Some o) p low =
      let P : ℕ → Type 0 = λ k. LowestBelow m d s (t + d) entry (Some k) in
      elim (cases_lt n o) [
        | inl k ↦
            let q : n ≡ min n o = omega arith in
            subst P q (older n low (λ e i. omega (arith, same_entry (entry t) o e p i)))
        | inr k ↦
            let q : o ≡ min n o = omega arith in
            subst P q (newest o p (λ r e l c i. omega (arith, low.2 r e l c i)))
      ]

-- past the last remainder that is the lowest entry
pub lowest_all : (m d s t : ℕ) (entry : ℕ → Option ℕ) → 1 ≤ m → m ≤ t → Leaves m entry → (low : Option ℕ)
    → LowestBelow m d s t entry low → Lowest m d s entry low
lowest_all m d s t entry some past leaves None none =
    λ r c. elim (entry_cases (entry r)) [
      | inl absent ↦ absent
      | inr is ↦ none r (omega (arith, mod-lt is.0 some, leaves r is.0 is.1)) c
    ]
lowest_all m d s t entry some past leaves (Some n) low =
    (low.0, low.1, λ r e c p. low.2 r e (omega (arith, mod-lt e some, leaves r e p)) c p)

-- The lowest entry of the ring of s as far as the turns of d remainders that are passed say, where these entries are left.
pub record Turned (entries : List (Option ℕ)) (d s : ℕ) (left : List (Option ℕ)) (low : Option ℕ) : Type 0 where
  passed : List (Option ℕ)
  turns : ℕ
  counted : length passed ≡ turns * d
  whole : passed ++ left ≡ entries
  lowest : LowestBelow (length entries) d s (s + turns * d) (entry_of entries) low

module _ (entries : List (Option ℕ)) (d s : ℕ) (some : s < d) where
  pub turned_none : (left : List (Option ℕ)) → left ≡ entries → Turned entries d s left None
  turned_none left e =
      record {
        passed = [];
        turns = 0;
        counted = sym (zero-mul d);
        whole = e;
        lowest = λ r l c. absurd (class_below d s r some (omega (arith, zero-mul d)) c);
      }

  pub turned_more : Leaves (length entries) (entry_of entries) → length entries % d ≡ 0 → (left turn : List (Option ℕ)) (low : Option ℕ)
      → Turned entries d s (turn ++ left) low → length turn ≡ d → Turned entries d s left (lesser_entry low (get_or turn s None))
  turned_more leaves divides left turn low t long =
      let further : s + (t.turns + 1) * d ≡ s + t.turns * d + d = omega (arith, suc-mul t.turns d) in
      let here : entry_of entries (s + t.turns * d) ≡ get_or turn s None =
      ap (λ (xs : List (Option ℕ)). get_or xs (s + t.turns * d) None) (sym t.whole)
      ∙ ap (λ (i : ℕ). get_or (t.passed ++ (turn ++ left)) i None) (let e : s + t.turns * d ≡ length t.passed + s = omega (arith, t.counted) in e)
      ∙ get_or-append-add t.passed (turn ++ left) s None
      ∙ get_or-append turn left None s (omega arith) in
      record {
        passed = t.passed ++ turn;
        turns = t.turns + 1;
        counted = omega (arith, length-append t.passed turn, t.counted, long, suc-mul t.turns d);
        whole = append_assoc t.passed turn left ∙ t.whole;
        lowest = subst (λ (k : ℕ). LowestBelow (length entries) d s k (entry_of entries) (lesser_entry low (get_or turn s None))) (sym further)
            (lowest_more (length entries) d s (s + t.turns * d) (entry_of entries) leaves divides (add-mul-mod_self_right s t.turns d ∙ mod-eq_of_lt some) low (get_or turn s None) here t.lowest);
      }

  pub turned_all : 1 ≤ length entries → Leaves (length entries) (entry_of entries) → length entries % d ≡ 0 → (left : List (Option ℕ)) (low : Option ℕ)
      → Turned entries d s left low → length left < d → Lowest (length entries) d s (entry_of entries) low
  turned_all present leaves divides left low t short =
      let sum : length entries ≡ length left + t.turns * d = omega (arith, ap length (sym t.whole), length-append t.passed left, t.counted) in
      let none : length left ≡ 0 = sym (mod-eq_of_lt short) ∙ sym (add-mul-mod_self_right (length left) t.turns d) ∙ ap (λ (k : ℕ). k % d) (sym sum) ∙ divides in
      lowest_all (length entries) d s (s + t.turns * d) (entry_of entries) present (omega arith) leaves low t.lowest
