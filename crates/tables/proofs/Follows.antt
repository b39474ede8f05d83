-- Following the steps from an entry down to 0, and the counts on the way.
use Rattle.std.proofs.Common.{◌≡◌, ℕ, ◌+◌, ◌-◌, ◌%◌, ◌<◌, ◌≤◌, ◌⊎◌, List, length, get_or, replicate, Some, None, Option, sym, ap, ◌∙◌, subst, inl, inr, mod-lt, arith, length-set}
use Rattle.std.proofs.lemmas.List.{get_or-set_other, get_or-replicate, get_or_past, length-replicate}
use Rattle.std.proofs.lemmas.Option.{slice_get-get_or}
use Rattle.std.proofs.lemmas.Bool.{cases_lt}
use Rattle.std.specs.List.{slice_get}
use Rattle.tables.specs.Made.{one_more, Followed, done, next}
use Rattle.tables.specs.Rows.{total, Row, Table, base_of}
use Rattle.tables.specs.Steps.{Leads, Step, step_at}
use Rattle.tables.proofs.Present.{same_entry, not_both}
use Rattle.tables.proofs.Counts.{plus, plus_none_left, plus_none_right, plus_more, get_or_more_le, total_none, total_more}
use Rattle.tables.proofs.Firsts.{EntryStep, entry_zero, step_some, step_none}
use Rattle.tables.proofs.Leasts.{base_some, least_entry}

pub followed_length : {row : List ℕ} {r : ℕ} {counts : List ℕ} → Followed row r counts → length counts ≡ length row
followed_length {row} done = length-replicate {A = ℕ} (length row) 0
followed_length (next r s i counts step low brings f) = length-set counts i (get_or counts i 0 + 1) ∙ followed_length f

-- the size that a showing source tells
pub size_told : (row : List ℕ) (i size : ℕ) (told : Option ℕ) → i < length row → told ≡ slice_get row i → told ≡ Some size → size ≡ get_or row i 0
size_told row i size told inside is some = same_entry told size (get_or row i 0) some (is ∙ slice_get-get_or row i 0 inside)

-- the step that a showing source tells of an entry, where the base is known by other names
pub step_told : {row : List ℕ} {entry : ℕ → Option ℕ} {base modulus i : ℕ} (rest : ℕ) → Row row → Table row entry → base ≡ modulus → base_of row ≡ modulus → Some i ≡ step_at row entry (rest % base) → EntryStep row entry (rest % base_of row) i
step_told {row} {entry} {base} {modulus} {i} rest ordered table divides based told =
    step_some row entry ordered table (rest % base_of row) i (ap (λ (b : ℕ). step_at row entry (rest % b)) (based ∙ sym divides) ∙ sym told)

-- where it tells none, the steps have come to 0
pub none_told : {row : List ℕ} {entry : ℕ → Option ℕ} {base modulus : ℕ} (rest : ℕ) → Row row → Table row entry → base ≡ modulus → base_of row ≡ modulus → None ≡ step_at row entry (rest % base) → (rest % base_of row ≡ 0) ⊎ (entry (rest % base_of row) ≡ None)
none_told {row} {entry} {base} {modulus} rest ordered table divides based told =
    step_none row entry ordered table (rest % base_of row) (ap (λ (b : ℕ). step_at row entry (rest % b)) (based ∙ sym divides) ∙ sym told)

leads_by : {row : List ℕ} {At Else : ℕ → ℕ → Type 0} {r i : ℕ} → ((s e : ℕ) → s < base_of row → At s e → Else s e) → r < base_of row → Leads row At r i → Leads row Else r i
leads_by by low l =
    record {
      from = l.from;
      load = l.load;
      below = l.below;
      brings = l.brings;
      before = by _ _ l.below l.before;
      after = by _ _ low l.after;
    }

-- Counts so far on the way down from the entry top, with the entry rest still to follow.
pub record Following (row : List ℕ) (entry : ℕ → Option ℕ) (top : ℕ) (counts : List ℕ) (rest : ℕ) : Type 0 where
  pub places : length counts ≡ length row
  pub present : entry (rest % base_of row) ≡ Some rest
  pub bounded : (k : ℕ) → get_or counts k 0 + rest ≤ top
  pub adds : total row counts + rest ≡ top
  pub first : get_or counts 0 0 ≡ 0
  pub onward : (more : List ℕ) → Followed row (rest % base_of row) more → Followed row (top % base_of row) (plus counts more)

-- what a step leaves of the entry rest: the entry that it leads from
pub record Left (row : List ℕ) (entry : ℕ → Option ℕ) (rest i : ℕ) : Type 0 where
  pub fits : 1 + (rest - get_or row i 0) ≤ rest
  pub size : get_or row i 0 ≤ rest
  pub present : entry ((rest - get_or row i 0) % base_of row) ≡ Some (rest - get_or row i 0)
  pub brings : ((rest - get_or row i 0) % base_of row + get_or row i 0) % base_of row ≡ rest % base_of row

-- the counts of all the steps down from the entry top
pub record Ended (row : List ℕ) (top : ℕ) (counts : List ℕ) : Type 0 where
  pub followed : Followed row (top % base_of row) counts
  pub adds : total row counts ≡ top
  pub first : get_or counts 0 0 ≡ 0

module _ (row : List ℕ) (entry : ℕ → Option ℕ) (ordered : Row row) (table : Table row entry) where
  some : 1 ≤ base_of row
  some = base_some row ordered

  -- the entries of the table are the least loads of its row, so its steps are those of the row
  row_step : (r i : ℕ) → r < base_of row → EntryStep row entry r i → Step row r i
  row_step r i low s =
      record {
        nonzero = s.nonzero;
        other = s.other;
        inside = s.inside;
        leads = leads_by (λ t e h p. table.present t e p) low s.leads;
        first = λ j other before l. s.first j other before (leads_by (least_entry row entry table) low l);
      }

  pub following_none : (top : ℕ) (counts : List ℕ) → counts ≡ replicate (length row) 0 → entry (top % base_of row) ≡ Some top → Following row entry top counts top
  following_none top counts none present =
      record {
        places = ap length none ∙ length-replicate {A = ℕ} (length row) 0;
        present = present;
        bounded = λ k. omega (arith, zeros k);
        adds = omega (arith, ap (total row) none, total_none row);
        first = zeros 0;
        onward = λ more f. subst (Followed row (top % base_of row)) (sym (ap (λ cs. plus cs more) none ∙ plus_none_left (length row) more (followed_length f))) f;
      }
    where
      zeros : (k : ℕ) → get_or counts k 0 ≡ 0
      zeros k =
          ap (λ cs. get_or cs k 0) none
          ∙ elim (cases_lt k (length row)) [
            | inl h ↦ get_or-replicate (length row) k 0 0 h
            | inr h ↦ get_or_past (replicate (length row) 0) k 0 (omega (arith, length-replicate {A = ℕ} (length row) 0))
          ]

  pub left_by : (rest i : ℕ) → entry (rest % base_of row) ≡ Some rest → EntryStep row entry (rest % base_of row) i → Left row entry rest i
  left_by rest i present s =
      let g : ℕ = get_or row i 0 in
      let l : Leads row (λ r e. entry r ≡ Some e) (rest % base_of row) i = s.leads in
      let sum : l.load + g ≡ rest = same_entry (entry (rest % base_of row)) (l.load + g) rest l.after present in
      let e : l.load ≡ rest - g = omega arith in
      let from : l.from ≡ (rest - g) % base_of row = sym (table.present l.from l.load l.before).leaves ∙ ap (λ k. k % base_of row) e in
      record {
        fits = omega (arith, (ordered.sizes i s.inside).0);
        size = omega arith;
        present = ap entry (sym from) ∙ l.before ∙ ap Some e;
        brings = ap (λ k. (k + g) % base_of row) (sym from) ∙ l.brings;
      }

  pub following_more : (top : ℕ) (counts : List ℕ) (rest i : ℕ) → Following row entry top counts rest → EntryStep row entry (rest % base_of row) i → Following row entry top (one_more counts i) (rest - get_or row i 0)
  following_more top counts rest i f s =
      let b : Left row entry rest i = left_by rest i f.present s in
      record {
        places = length-set counts i (get_or counts i 0 + 1) ∙ f.places;
        present = b.present;
        bounded = λ k. omega (arith, f.bounded k, get_or_more_le counts i k, b.fits);
        adds = omega (arith, f.adds, total_more row counts i s.inside f.places, b.size);
        first = get_or-set_other counts i 0 (get_or counts i 0 + 1) 0 (λ z. omega (arith, s.other)) ∙ f.first;
        onward = λ more followed.
            subst (Followed row (top % base_of row)) (plus_more counts more i (f.places ∙ sym (followed_length followed)))
            (f.onward (one_more more i) (next (rest % base_of row) ((rest - get_or row i 0) % base_of row) i more (row_step (rest % base_of row) i (mod-lt rest some) s) (mod-lt (rest - get_or row i 0) some) b.brings followed));
      }

  pub following_all : (top : ℕ) (counts : List ℕ) (rest : ℕ) → Following row entry top counts rest → (rest % base_of row ≡ 0) ⊎ (entry (rest % base_of row) ≡ None) → Ended row top counts
  following_all top counts rest f (inr none) = absurd (not_both (entry (rest % base_of row)) rest f.present none)
  following_all top counts rest f (inl zeroth) =
      let none : rest ≡ 0 = same_entry (entry 0) rest 0 (ap entry (sym zeroth) ∙ f.present) (entry_zero row entry ordered table) in
      let at : Followed row (rest % base_of row) (replicate (length row) 0) = subst (λ (r : ℕ). Followed row r (replicate (length row) 0)) (sym zeroth) done in
      record {
        followed = subst (Followed row (top % base_of row)) (plus_none_right (length row) counts f.places) (f.onward (replicate (length row) 0) at);
        adds = omega (arith, f.adds);
        first = f.first;
      }
