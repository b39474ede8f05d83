-- What is written for a row and its true table is a true file that gives both back.
use Rattle.std.proofs.Common.{◌≡◌, ℕ, zero, suc, ◌+◌, ◌-◌, ◌*◌, ◌<◌, ◌≤◌, ltb, List, [], ◌∷◌, ◌++◌, length, get_or, take, drop, Some, None, Option, sym, refl, ap, ◌∙◌, subst, inl, inr, append_assoc, arith, length-append}
use Rattle.std.specs.List.{flat_map}
use Rattle.std.proofs.lemmas.List.{get_or_past, take_at}
use Rattle.std.proofs.lemmas.Bool.{cases_lt, cond-true, lt-ltb}
use Rattle.tables.specs.Rows.{Row, Table, base_of}
use Rattle.tables.specs.Tables.{Lawful}
use Rattle.files.specs.Entries.{entry_here, entry_past}
use Rattle.files.specs.Fields.{at16, at32, be16}
use Rattle.files.specs.Layout.{Kept, SizeFits, WellFormed, entry_value, fields, file_base, file_entry, file_others, file_row, file_size, file_units, sizes_from}
use Rattle.files.specs.Rounds.{ReadsBack}
use Rattle.files.specs.Written.{Saved, entries_from, entry_bytes, entry_number, head_bytes, written}
use Rattle.files.proofs.Fronts.{joined_length}
use Rattle.files.proofs.Numbers.{past16, past32, up16, up32}
use Rattle.files.proofs.Places.{others_at}
use Rattle.files.proofs.Spelt.{entries_at, entries_length}

-- the entry that the number of an entry stands for
number_value : (o : Option ℕ) → ((e : ℕ) → o ≡ Some e → e ≤ 4294967294) → entry_value (entry_number o) ≡ o
number_value None fits = refl
number_value (Some e) fits = cond-true (ltb e 4294967295) (Some e) None (lt-ltb e 4294967295 (omega (arith, fits e refl)))

number_below : (o : Option ℕ) → ((e : ℕ) → o ≡ Some e → e ≤ 4294967294) → entry_number o < 4294967296
number_below None fits = omega arith
number_below (Some e) fits = omega (arith, fits e refl)

-- the sizes that stand past a front
sizes_read : (front gs rest : List ℕ) (i : ℕ) → length front ≡ 8 + 2 * i → ((j : ℕ) → get_or gs j 0 < 65536) → sizes_from (front ++ (flat_map be16 gs ++ rest)) i (length gs) ≡ gs
sizes_read front [] rest i size below = refl
sizes_read front (g ∷ gs) rest i size below =
    let tail : List ℕ = flat_map be16 gs ++ rest in
    let shift : front ++ (be16 g ++ tail) ≡ front ++ be16 g ++ tail = sym (append_assoc front (be16 g) tail) in
    let this : at16 (front ++ (be16 g ++ tail)) (8 + 2 * i) ≡ g = past16 front (be16 g ++ tail) (8 + 2 * i) size ∙ up16 g (below 0) in
    let more : length (front ++ be16 g) ≡ 8 + 2 * suc i = length-append front (be16 g) ∙ omega (arith, size) in
    ap (λ (k : ℕ). k ∷ sizes_from (front ++ (be16 g ++ tail)) (suc i) (length gs)) this
    ∙ ap (λ (zs : List ℕ). g ∷ sizes_from zs (suc i) (length gs)) shift
    ∙ ap (λ (zs : List ℕ). g ∷ zs) (sizes_read (front ++ be16 g) gs rest (suc i) more (λ j. below (suc j)))

-- the entries that stand past a front
entries_read : (front : List ℕ) (os : List (Option ℕ)) (p r : ℕ) → length front ≡ p → r < length os → ((e : ℕ) → get_or os r None ≡ Some e → e ≤ 4294967294) → at32 (front ++ flat_map entry_bytes os) (p + 4 * r) ≡ entry_number (get_or os r None)
entries_read front [] p r size low fits = absurd (omega arith)
entries_read front (o ∷ os) p zero size low fits =
    let same : p + 4 * 0 ≡ p = omega arith in
    ap (at32 (front ++ flat_map entry_bytes (o ∷ os))) same
    ∙ past32 front (flat_map entry_bytes (o ∷ os)) p size ∙ up32 (entry_number o) (number_below o fits)
entries_read front (o ∷ os) p (suc r) size low fits =
    let shift : front ++ (entry_bytes o ++ flat_map entry_bytes os) ≡ front ++ entry_bytes o ++ flat_map entry_bytes os = sym (append_assoc front (entry_bytes o) (flat_map entry_bytes os)) in
    let on : p + 4 * suc r ≡ p + 4 + 4 * r = omega arith in
    let more : length (front ++ entry_bytes o) ≡ p + 4 = length-append front (entry_bytes o) ∙ omega (arith, size) in
    ap (at32 (front ++ (entry_bytes o ++ flat_map entry_bytes os))) on
    ∙ ap (λ (zs : List ℕ). at32 zs (p + 4 + 4 * r)) shift
    ∙ entries_read (front ++ entry_bytes o) os (p + 4) r more (omega arith) fits

module _ (base : ℕ) (others : List ℕ) (entry : ℕ → Option ℕ) (ordered : Row (base ∷ others)) (lawful : Lawful base entry) where
  abbrev file : List ℕ
  file = written (base ∷ others) entry

  abbrev head : List ℕ
  head = head_bytes (base ∷ others)

  abbrev entries : List (Option ℕ)
  entries = entries_from entry 0 base

  others_small : (j : ℕ) → get_or others j 0 < 65536
  others_small j =
      elim (cases_lt j (length others)) [
        | inl h ↦ omega (arith, (ordered.sizes (suc j) (omega arith)).1)
        | inr h ↦ omega (arith, get_or_past others j 0 h)
      ]

  base_again : file_base file ≡ base
  base_again = up16 base (omega (arith, lawful.high))

  others_again : file_others file ≡ others
  others_again =
      let one : suc (length others) - 1 ≡ length others = omega arith in
      let loads : List ℕ = flat_map entry_bytes entries in
      ap (sizes_from file 0) one
      ∙ ap (λ (zs : List ℕ). sizes_from zs 0 (length others)) (append_assoc head (flat_map be16 others) loads)
      ∙ sizes_read head others loads 0 refl others_small

  row_again : file_row file ≡ base ∷ others
  row_again = ap (λ (k : ℕ). k ∷ file_others file) base_again ∙ ap (λ (zs : List ℕ). base ∷ zs) others_again

  entry_again : (r : ℕ) → file_entry file r ≡ entry r
  entry_again r =
      let front : List ℕ = head ++ flat_map be16 others in
      let p : ℕ = 8 + 2 * (suc (length others) - 1) in
      let size : length front ≡ p = length-append head (flat_map be16 others) ∙ omega (arith, joined_length be16 2 (λ x. refl) others) in
      elim (cases_lt r base) [
        | inl low ↦
            let at : get_or entries r None ≡ entry r = entries_at entry base r low in
            entry_here file r (subst (λ (k : ℕ). r < k) (sym base_again) low)
            ∙ ap entry_value (entries_read front entries p r size (omega (arith, entries_length entry 0 base)) (λ e q. lawful.fits r e (sym at ∙ q)) ∙ ap entry_number at)
            ∙ number_value (entry r) (lawful.fits r)
        | inr high ↦ entry_past file r (subst (λ (k : ℕ). k ≤ r) (sym base_again) high) ∙ sym (lawful.past r high)
      ]

  file_length : length file ≡ 8 + 2 * length others + 4 * base
  file_length =
      length-append (head ++ flat_map be16 others) (flat_map entry_bytes entries)
      ∙ omega (arith, length-append head (flat_map be16 others), joined_length be16 2 (λ x. refl) others, joined_length entry_bytes 4 (λ x. refl) entries, entries_length entry 0 base)

  size_is : (i : ℕ) → i < length others → file_size file i ≡ get_or others i 0
  size_is i h =
      let there : i < file_units file - 1 = omega arith in
      sym (others_at file i there) ∙ ap (λ (gs : List ℕ). get_or gs i 0) others_again

  size_above : (i : ℕ) → i < length others → 1 ≤ i → file_size file (i - 1) < file_size file i
  size_above i h one =
      let rises = ordered.rises (suc (i - 1)) (suc i) (omega arith) (omega arith) (omega arith) in
      omega (arith, rises, size_is i h, size_is (i - 1) (omega arith))

  size_fits : (i : ℕ) → i < length others → SizeFits file i
  size_fits i h =
      record {
        some = omega (arith, size_is i h, (ordered.sizes (suc i) (omega arith)).0);
        above = size_above i h;
        apart = λ e. ordered.apart (suc i) (omega arith) (omega arith) (sym (size_is i h) ∙ e ∙ base_again);
      }

  kept : Kept file (fields file)
  kept zero h = (omega (arith, file_length), refl)
  kept (suc zero) h = (omega (arith, file_length), refl)
  kept (suc (suc zero)) h = (omega (arith, file_length), (omega arith, omega (arith, ordered.few)))
  kept (suc (suc (suc zero))) h =
      (omega (arith, file_length), (omega (arith, base_again, lawful.low), omega (arith, base_again, lawful.high)))
  kept (suc (suc (suc (suc i)))) h =
      let there : i < length others = omega arith in
      (omega (arith, file_length), size_fits i there)

  formed_again : WellFormed file
  formed_again = record { kept = kept; whole = file_length ∙ omega (arith, base_again) }

  back_at : Table (base ∷ others) entry → ReadsBack (base ∷ others) entry file
  back_at table =
      let same : Table (base ∷ others) (file_entry file) =
      record {
        present = λ r e p. table.present r e (sym (entry_again r) ∙ p);
        absent = λ r n low p. table.absent r n low (sym (entry_again r) ∙ p);
      } in
      record {
        accepted = record {
          formed = formed_again;
          table = subst (λ (row : List ℕ). Table row (file_entry file)) (sym row_again) same;
        };
        row_back = row_again;
        entries_back = entry_again;
      }

  -- its front is as long as it should be
  front_at : (size : ℕ) (before : List ℕ) → size ≡ 8 + 2 * (length (base ∷ others) - 1) + 4 * base → take size (file ++ drop size before) ≡ file
  front_at size before is = take_at file (drop size before) size (omega (arith, file_length))

-- what a source's file gives back, once it is saved
pub reads_back : (row : List ℕ) (entry : ℕ → Option ℕ) (m : ℕ) (before : List ℕ) (size : ℕ) (after : List ℕ)
    → Row row → base_of row ≡ m → Lawful m entry → Table row entry → Saved row entry before size after → ReadsBack row entry (take size after)
reads_back [] entry m before size after ordered based lawful table saved = absurd (omega (arith, ordered.some))
reads_back (base ∷ others) entry m before size after ordered based lawful table saved =
    let law : Lawful base entry = subst (λ (k : ℕ). Lawful k entry) (sym based) lawful in
    let is : take size after ≡ written (base ∷ others) entry = ap (take size) saved.front ∙ front_at base others entry ordered law size before saved.length_is in
    subst (ReadsBack (base ∷ others) entry) (sym is) (back_at base others entry ordered law table)
