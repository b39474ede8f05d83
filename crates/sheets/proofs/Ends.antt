-- The lines of an input are what the library's `split_inclusive` gives of it, cut at each byte 10.
use Rattle.std.proofs.Common.{◌≡◌, ℕ, suc, ◌+◌, ◌<◌, ◌≤◌, min, Bool, true, false, true≢false, eqb, ◌⊎◌, List, [], ◌∷◌, ◌++◌, length, get_or, Option, MatchOption, sym, refl, ap, ◌∙◌, subst, inl, inr, ⊎_elim, arith, length-append}
use denote.Param.Members.{Mut}
use denote.Ref.{Bor}
use Rattle.std.specs.declared.slice.SplitInclusive.{SplitInclusive}
use Rattle.std.specs.Fn.{CalledAt, ComputesKey}
use Rattle.std.specs.List.{IsFirstMatchOrLen}
use Rattle.std.specs.Slice.Iter.{split_inclusive_rest, split_inclusive_callee}
use Rattle.std.proofs.lemmas.Fn.{always_returns_same}
use Rattle.std.proofs.lemmas.List.{get_or_append_left, nil_from_length}
use Rattle.std.proofs.lemmas.Bool.{cond-true, cond-false, cases_Bool, cases_lt}
use Rattle.std.proofs.lemmas.Iterator.{YieldsList}
use Rattle.std.proofs.lemmas.Iterator.Splits.{YieldsList-from_shown_while}
use Rattle.sheets.specs.Splitting.{lines_of, onto}

-- a first line, whose last byte alone is a 10, unless the line is all there is
first_line : (x ys : List ℕ) → 0 < length x → ((k : ℕ) → k + 1 < length x → eqb (get_or x k 0) 10 ≡ false) → ((k : ℕ) → k + 1 ≡ length x → eqb (get_or x k 0) 10 ≡ true) ⊎ (ys ≡ []) → lines_of (x ++ ys) ≡ x ∷ lines_of ys
first_line [] ys some before last = absurd (omega arith)
first_line (b ∷ []) ys some before last = alone (cases_Bool (eqb b 10))
  where
    alone : (eqb b 10 ≡ true) ⊎ (eqb b 10 ≡ false) → lines_of (b ∷ ys) ≡ (b ∷ []) ∷ lines_of ys
    alone (inl here) = cond-true (eqb b 10) ((b ∷ []) ∷ lines_of ys) (onto b (lines_of ys)) here
    alone (inr other) =
        ⊎_elim
        (λ (at : (k : ℕ) → k + 1 ≡ 1 → eqb (get_or (b ∷ []) k 0) 10 ≡ true). absurd (true≢false (sym (at 0 (omega arith)) ∙ other)))
        (λ (none : ys ≡ []). cond-false (eqb b 10) ((b ∷ []) ∷ lines_of ys) (onto b (lines_of ys)) other ∙ ap (λ (zs : List ℕ). onto b (lines_of zs)) none ∙ ap (λ (zs : List ℕ). (b ∷ []) ∷ lines_of zs) (sym none))
        last
first_line (b ∷ (d ∷ x)) ys some before last =
    cond-false (eqb b 10) ((b ∷ []) ∷ lines_of (d ∷ (x ++ ys))) (onto b (lines_of (d ∷ (x ++ ys)))) (before 0 (omega arith))
    ∙ ap (onto b) (first_line (d ∷ x) ys (omega arith) (λ k l. before (suc k) (omega arith))
    (⊎_elim (λ (at : (k : ℕ) → k + 1 ≡ length (b ∷ (d ∷ x)) → eqb (get_or (b ∷ (d ∷ x)) k 0) 10 ≡ true). inl (λ k e. at (suc k) (omega arith))) (λ (none : ys ≡ []). inr none) last))

-- the part that `split_inclusive` takes off the front
cut : (xs x ys : List ℕ) (i : ℕ) → xs ≡ x ++ ys → length x ≡ min (i + 1) (length xs) → 0 < length xs → IsFirstMatchOrLen (λ b. eqb b 10) xs i → lines_of xs ≡ x ∷ lines_of ys
cut xs x ys i is long some first =
    let same : (k : ℕ) → k < length x → eqb (get_or x k 0) 10 ≡ eqb (get_or xs k 0) 10 = λ k l. ap (λ (b : ℕ). eqb b 10) (sym (ap (λ (zs : List ℕ). get_or zs k 0) is ∙ get_or_append_left x ys 0 k l)) in
    ap lines_of is ∙ first_line x ys (omega arith)
    (λ k l. same k (omega arith) ∙ first.0 k 0 (omega arith) (omega arith))
    (⊎_elim
    (λ (low : i < length xs). inl (λ k e. let at : k ≡ i = omega arith in same k (omega arith) ∙ ap (λ (j : ℕ). eqb (get_or xs j 0) 10) at ∙ first.1 low 0))
    (λ (past : length xs ≤ i). inr (nil_from_length ys (omega (arith, ap length is, length-append x ys))))
    (cases_lt i (length xs)))

module _ {F : Type 0} (g : Mut F (Bor ℕ × Unit {0}) Bool) where
  -- what its `next` gives
  abbrev cuts : SplitInclusive ℕ F → Option (Bor (List ℕ)) → SplitInclusive ℕ F → Type 0
  cuts s r t = MatchOption r ((length (split_inclusive_rest s) ≡ 0) × (t ≡ s))
      (λ x. (split_inclusive_rest s ≡ x.now ++ split_inclusive_rest t)
      × ((i : ℕ) × (length x.now ≡ min (i + 1) (length (split_inclusive_rest s))) × ((p : ℕ → Bool) → ComputesKey g p (split_inclusive_callee s) → ComputesKey g p (split_inclusive_callee t) × IsFirstMatchOrLen p (split_inclusive_rest s) i))
      × (0 < length (split_inclusive_rest s)))

  pub YieldsList-from_lines_of : {s : _} {f : F} (xs : List ℕ) → split_inclusive_rest s ≡ xs → split_inclusive_callee s ≡ f → ((x : ℕ) (b : Bool) (q : F) → CalledAt g f x b q → (q ≡ f) × (b ≡ eqb x 10))
      → YieldsList cuts (λ x. x.now) s (lines_of xs)
  YieldsList-from_lines_of {s = s} {f = f} xs rest closure tests = subst (λ (zs : List ℕ). YieldsList cuts (λ x. x.now) s (lines_of zs)) rest
      (YieldsList-from_shown_while cuts (λ x. x.now) (λ t. lines_of (split_inclusive_rest t)) (λ t. ComputesKey g (λ b. eqb b 10) (split_inclusive_callee t))
      (λ t u h k. ap (λ (zs : List ℕ). length (lines_of zs)) (nil_from_length (split_inclusive_rest t) k.0))
      (λ t x u h k. let m = k.1.2 (λ b. eqb b 10) h in (m.0, cut (split_inclusive_rest t) x.now (split_inclusive_rest u) k.1.0 k.0 k.1.1 k.2 m.1))
      s (subst (ComputesKey g (λ b. eqb b 10)) (sym closure) (always_returns_same g (λ a r. r ≡ eqb a.0.now 10) f (λ a r q k. let m = tests a.0.now r q (record { shown = a.0; shows = refl; called = k }) in (m.1, m.0)))))
