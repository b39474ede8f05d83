-- From the checks of a file to the verdict on it.
use Rattle.std.proofs.Common.{◌≡◌, ℕ, List, IsErrAnd, MatchResult, Result, Ok, Err, sym, ◌∙◌, inl, inr}
use Rattle.tables.specs.Rules.{Rules}
use Rattle.tables.proofs.Certificate.{sound, complete}
use Rattle.tables.specs.declared.refusals.Refusal.{Refusal}
use Rattle.tables.specs.declared.refusals.Refusal.TheVariants.{Malformed}
use Rattle.files.specs.Checks.{FirstFalse}
use Rattle.files.specs.Entries.{entry_past}
use Rattle.files.specs.Faults.{Fault, FirstFault}
use Rattle.files.specs.Judged.{Rejects, TrueFile, malformed}
use Rattle.files.specs.Fields.{Bytes}
use Rattle.files.specs.Layout.{WellFormed, file_base, file_entry, file_others}
use Rattle.files.proofs.Firsts.{no_fault, one_fault}
use Rattle.files.proofs.Formed.{formed_low, others_sized}

module _ (bytes : List ℕ) where
  pub fault_untrue : (offset : ℕ) → Fault bytes offset → TrueFile bytes → ⊥
  fault_untrue offset fault true_file = no_fault bytes offset fault true_file.formed

  pub rules_true : WellFormed bytes → Rules (file_base bytes) (file_others bytes) (file_entry bytes) → TrueFile bytes
  rules_true formed rules =
      record {
        formed = formed;
        table = sound (file_base bytes) (file_others bytes) (file_entry bytes) (formed_low bytes formed) (others_sized bytes formed) (entry_past bytes) rules;
      }

  pub true_rules : TrueFile bytes → Rules (file_base bytes) (file_others bytes) (file_entry bytes)
  true_rules true_file = complete (file_base bytes) (file_others bytes) (file_entry bytes) (formed_low bytes true_file.formed) true_file.table

  pub false_untrue : (r : ℕ) → FirstFalse (file_base bytes) (file_others bytes) (file_entry bytes) r → TrueFile bytes → ⊥
  false_untrue r first true_file = first.fails (true_rules true_file r first.below)

  -- what the check of the layout answers
  abbrev Laid : Result (Unit {0}) ℕ → Type 0
  Laid r = MatchResult r (λ _. WellFormed bytes × Bytes bytes) (Fault bytes)

  -- where such an answer is told as a refusal
  abbrev Told : (ℕ → Refusal) → Result (Unit {0}) ℕ → Result (Unit {0}) Refusal → Type 0
  Told reason r told = MatchResult r (λ u. told ≡ Ok u) (λ x. IsErrAnd told (λ y. y ≡ reason x))

  pub unformed : (r : Result (Unit {0}) ℕ) (told : Result (Unit {0}) Refusal) (why : Refusal) → Laid r → Told Malformed r told → told ≡ Err why → Rejects bytes why × (TrueFile bytes → ⊥)
  unformed (Ok _) told why formed ok err = absurd (cc (sym ok ∙ err))
  unformed (Err offset) told why fault same err = rw (rw err at same) (malformed offset fault, fault_untrue offset fault)

  pub formed : (r : Result (Unit {0}) ℕ) (told : Result (Unit {0}) Refusal) (u : Unit {0}) → Laid r → Told Malformed r told → told ≡ Ok u → WellFormed bytes × Bytes bytes
  formed (Ok _) told u laid same ok = laid
  formed (Err offset) told u fault same ok = absurd (rw ok at same)

  pub first_fault : (r : Result (Unit {0}) ℕ) → Laid r → FirstFault bytes
  first_fault (Ok _) laid = record { either = inl laid.0; one = one_fault bytes; none = no_fault bytes }
  first_fault (Err offset) fault = record { either = inr (offset, fault); one = one_fault bytes; none = no_fault bytes }
