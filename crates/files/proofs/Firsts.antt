-- A file has one first fault, or none where it is well-formed.
use Rattle.std.proofs.Common.{◌≡◌, ℕ, ◌≤◌, List, length, sym, ap, ◌∙◌, subst, inl, inr, arith}
use Rattle.std.proofs.lemmas.Bool.{cases_lt}
use Rattle.files.specs.Faults.{NoFault, OneFault, broken, cut, short, long}
use Rattle.files.specs.Layout.{Keeps, Kept, field_end, field_start}

-- the fields stop being kept at the field
abbrev Stops : List ℕ → ℕ → Type 0
Stops bytes field = field_end field ≤ length bytes → Keeps bytes field → ⊥

same_field : (bytes : List ℕ) (f g : ℕ) → Kept bytes f → Kept bytes g → Stops bytes f → Stops bytes g → f ≡ g
same_field bytes f g kf kg sf sg =
    elim (cases_lt f g) [
      | inl h ↦ absurd (sf (kg f h).0 (kg f h).1)
      | inr h ↦ elim (cases_lt g f) [ inl k ↦ absurd (sg (kf g k).0 (kf g k).1) | inr k ↦ omega arith ]
    ]

pub one_fault : (bytes : List ℕ) → OneFault bytes
one_fault bytes a b (broken f lf kf ef bf p) (broken g lg kg eg bg q) =
    p ∙ ap field_start (same_field bytes f g kf kg (λ _. bf) (λ _. bg)) ∙ sym q
one_fault bytes a b (broken f lf kf ef bf p) (cut g lg kg cg q) =
    let same : f ≡ g = same_field bytes f g kf kg (λ _. bf) (λ e. absurd (omega arith)) in
    let ends : field_end g ≤ length bytes = subst (λ (k : ℕ). field_end k ≤ length bytes) same ef in
    absurd (omega arith)
one_fault bytes a b (broken f lf kf ef bf p) (short k l q) = absurd (bf (k f lf).1)
one_fault bytes a b (broken f lf kf ef bf p) (long k l q) = absurd (bf (k f lf).1)
one_fault bytes a b (cut f lf kf cf p) (broken g lg kg eg bg q) =
    let same : g ≡ f = same_field bytes g f kg kf (λ _. bg) (λ e. absurd (omega arith)) in
    let ends : field_end f ≤ length bytes = subst (λ (k : ℕ). field_end k ≤ length bytes) same eg in
    absurd (omega arith)
one_fault bytes a b (cut f lf kf cf p) (cut g lg kg cg q) = p ∙ sym q
one_fault bytes a b (cut f lf kf cf p) (short k l q) = p ∙ sym q
one_fault bytes a b (cut f lf kf cf p) (long k l q) = absurd (omega (arith, (k f lf).0))
one_fault bytes a b (short k l p) (broken g lg kg eg bg q) = absurd (bg (k g lg).1)
one_fault bytes a b (short k l p) (cut g lg kg cg q) = p ∙ sym q
one_fault bytes a b (short k l p) (short k' l' q) = p ∙ sym q
one_fault bytes a b (short k l p) (long k' l' q) = absurd (omega arith)
one_fault bytes a b (long k l p) (broken g lg kg eg bg q) = absurd (bg (k g lg).1)
one_fault bytes a b (long k l p) (cut g lg kg cg q) = absurd (omega (arith, (k g lg).0))
one_fault bytes a b (long k l p) (short k' l' q) = absurd (omega arith)
one_fault bytes a b (long k l p) (long k' l' q) = p ∙ sym q

pub no_fault : (bytes : List ℕ) → NoFault bytes
no_fault bytes offset (broken field low kept ends breaks at) formed = breaks (formed.kept field low).1
no_fault bytes offset (cut field low kept ends at) formed = omega (arith, (formed.kept field low).0)
no_fault bytes offset (short kept low at) formed = omega (arith, formed.whole)
no_fault bytes offset (long kept low at) formed = omega (arith, formed.whole)
