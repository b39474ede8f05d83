-- Zeros: a strip that is cleared, and what is left of a longer one whose first bytes are cleared.
use Rattle.std.proofs.Common.{◌≡◌, ℕ, zero, suc, ◌≤◌, List, ◌++◌, length, get_or, take, drop, replicate, Err, Result, sym, refl, ap, ◌∙◌, arith}
use Rattle.std.proofs.Math.ListN.{drop_of_length-le}
use Rattle.std.proofs.lemmas.List.{append-nil, length-take-le, take-append-drop}
use Rattle.tables.specs.declared.refusals.Refusal.{Refusal}
use Rattle.tables.specs.declared.refusals.Refusal.TheVariants.{NoRoom}
use Rattle.books.specs.Strips.{Cleared, StripLeft}

pub zeros : (k r : ℕ) → get_or (replicate {A = ℕ} k 0) r 0 ≡ 0
zeros zero r = refl
zeros (suc k) zero = refl
zeros (suc k) (suc r) = zeros k r

-- a strip that is cleared, of which nothing is past the first m bytes
pub cleared_all : (m k : ℕ) (before after : List ℕ) → length before ≡ m → k ≡ m → after ≡ replicate k 0 → Cleared m before after
cleared_all m k before after long same is =
    is ∙ (ap (λ (n : ℕ). replicate n 0) same
    ∙ (sym (append-nil (replicate m 0)) ∙ ap (λ (l : List ℕ). replicate m 0 ++ l) (sym (drop_of_length-le before {i = m} (omega arith)))))

-- the strip on the ways out, of which only a short one leaves it as it was
pub left_short : (m base : ℕ) (before : List ℕ) → m ≡ base → StripLeft base before before (Err (NoRoom m))
left_short m base before e = record { short = λ q. refl; cleared = λ other. absurd (other (ap (λ (k : ℕ). Err (NoRoom k)) e)) }

pub left_cleared : (m : ℕ) (before after : List ℕ) (r : Result (Unit {0}) Refusal) → (r ≡ Err (NoRoom m) → ⊥) → Cleared m before after → StripLeft m before after r
left_cleared m before after r other c = record { short = λ q. absurd (other q); cleared = λ q. c }

-- what is left of the first bytes, with the others after them
pub left_front : (m n : ℕ) (before front : List ℕ) (r : Result (Unit {0}) Refusal) → n ≡ m → n ≤ length before
    → StripLeft m (take n before) front r → StripLeft m before (front ++ drop n before) r
left_front m n before front r same fits s =
    let long : length (take n before) ≡ m = length-take-le n before fits ∙ same in
    record {
      short = λ q. ap (λ (l : List ℕ). l ++ drop n before) (s.short q) ∙ take-append-drop n before;
      cleared = λ q.
          let c : front ≡ replicate m 0
          = s.cleared q ∙ (ap (λ (l : List ℕ). replicate m 0 ++ l) (drop_of_length-le (take n before) {i = m} (omega arith)) ∙ append-nil (replicate m 0)) in
          ap (λ (l : List ℕ). l ++ drop n before) c ∙ ap (λ (k : ℕ). replicate m 0 ++ drop k before) same;
    }
