-- The fields of a file from the front, one more at a time.
use Rattle.std.proofs.Common.{◌≡◌, ℕ, suc, ◌<◌, ◌≤◌, Bool, Decides, MatchResult, Result, Ok, Err, List, length, sym, ◌∙◌, subst, inl, inr, arith}
use Rattle.std.proofs.lemmas.Bool.{cases_lt, true≢false}
use Rattle.files.specs.Faults.{Fault, FieldFault, FieldWhole, broken, cut, field_broken, field_cut}
use Rattle.files.specs.Layout.{Keeps, Kept, field_end, field_start, fields}

module _ (bytes : List ℕ) where
  pub kept_none : Kept bytes 0
  kept_none field h = absurd (omega arith)

  pub kept_more : (count : ℕ) → Kept bytes count → field_end count ≤ length bytes → Keeps bytes count → Kept bytes (suc count)
  kept_more count kept ends keeps field h =
      elim (cases_lt field count) [
        | inl low ↦ kept field low
        | inr high ↦
            let same : count ≡ field = omega arith in
            subst (λ (f : ℕ). (field_end f ≤ length bytes) × Keeps bytes f) same (ends, keeps)
      ]

  -- a field that was found whole and at its rule, and one that was not
  pub kept_field : (count end : ℕ) (keeps : Bool) → Kept bytes count → end ≡ field_end count → Decides keeps (Keeps bytes count) → FieldWhole bytes end keeps → Kept bytes (suc count)
  kept_field count end keeps kept at decides whole = kept_more count kept (omega (arith, whole.ends)) (decides.0 whole.rule)

  pub fault_field : (field start end offset : ℕ) (keeps : Bool) → field < fields bytes → Kept bytes field → start ≡ field_start field → end ≡ field_end field → Decides keeps (Keeps bytes field) → FieldFault bytes start end keeps offset → Fault bytes offset
  fault_field field start end offset keeps low kept from to decides (field_cut less at) = cut field low kept (omega arith) at
  fault_field field start end offset keeps low kept from to decides (field_broken ends false at) =
      broken field low kept (omega arith) (λ is. absurd (true≢false (sym (decides.1 is) ∙ false))) (at ∙ from)

  pub checked_field : (field start end : ℕ) (keeps : Bool) (r : Result (Unit {0}) ℕ) → field < fields bytes → Kept bytes field → start ≡ field_start field → end ≡ field_end field → Decides keeps (Keeps bytes field)
      → MatchResult r (λ _. FieldWhole bytes end keeps) (FieldFault bytes start end keeps)
      → MatchResult r (λ _. Kept bytes (suc field)) (Fault bytes)
  checked_field field start end keeps (Ok _) low kept from to decides whole = kept_field field end keeps kept to decides whole
  checked_field field start end keeps (Err offset) low kept from to decides fault = fault_field field start end offset keeps low kept from to decides fault
