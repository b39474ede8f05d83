-- What a file lists, copied place by place, and why a book of it keeps its invariant.
use Rattle.std.proofs.Common.{◌≡◌, ℕ, zero, suc, ◌+◌, ◌<◌, ◌≤◌, ltb, List, [], ◌∷◌, ◌++◌, length, take, drop, set, replicate, Some, None, Option, sym, refl, ap, ◌∙◌, inl, inr, arith}
use Rattle.files.specs.Fields.{be16}
use Rattle.files.specs.Judged.{TrueFile}
use Rattle.files.specs.Layout.{file_base, file_entry, file_others, file_row}
use Rattle.files.specs.Written.{entries_from, entry_bytes, head_bytes, written}
use Rattle.std.proofs.lemmas.Bool.{cases_lt, cases_eq, cond-false, le-ltb}
use Rattle.std.proofs.lemmas.List.{get_or-set_same, get_or-set_other, get_or-replicate, get_or_past, length-replicate}
use Rattle.std.specs.List.{slice_get, flat_map}
use Rattle.tables.specs.Rows.{Row, Table, base_of}
use Rattle.tables.specs.Rules.{Rules}
use Rattle.tables.specs.Tables.{entry_of}
use Rattle.tables.specs.Tests.{AllClosed, AllStepped, Leaves}
use Rattle.tables.proofs.Certificate.{complete}
use Rattle.tables.proofs.Present.{not_both}
use Rattle.tables.proofs.Tested.{start_from, leaves_from, closed_from, stepped_from}

-- one element more
pub take_nth : (xs : List ℕ) (k x : ℕ) → slice_get xs k ≡ Some x → take (k + 1) xs ≡ take k xs ++ x ∷ []
take_nth [] k x p = absurd (let z : ◌≡◌ {A = ℕ} 0 1 = cc in omega arith)
take_nth (y ∷ xs) zero x p = ap (λ (v : ℕ). v ∷ []) (let e : y ≡ x = cc in e)
take_nth (y ∷ xs) (suc k) x p =
    ap (λ (n : ℕ). take n (y ∷ xs)) (let e : suc k + 1 ≡ suc (k + 1) = omega arith in e) ∙ ap (λ (zs : List ℕ). y ∷ zs) (take_nth xs k x p)

-- entries that are all absent
none_past : (n r : ℕ) → entry_of (replicate n None) r ≡ None
none_past n r =
    elim (cases_lt r n) [
      | inl h ↦ get_or-replicate n r None None h
      | inr h ↦ get_or_past (replicate n None) r None (omega (arith, length-replicate {A = Option ℕ} n None))
    ]

-- absent entries alone, in place of all others
pub emptied : (n k : ℕ) (xs ys : List (Option ℕ)) → xs ≡ [] → ys ≡ take n xs ++ replicate k None → (r : ℕ) → entry_of ys r ≡ None
emptied n k xs ys none is r =
    ap (λ (zs : List (Option ℕ)). entry_of zs r)
    (is ∙ ap (λ (zs : List (Option ℕ)). take n zs ++ replicate k None) none ∙ ap (λ (zs : List (Option ℕ)). zs ++ replicate k None) (nothing n))
    ∙ none_past k r
  where
    nothing : (n : ℕ) → ◌≡◌ {A = List (Option ℕ)} (take n []) []
    nothing zero = refl
    nothing (suc n) = refl

-- The entries below k are copied, and the others are absent.
pub record Copied (entry : ℕ → Option ℕ) (k : ℕ) (entries : List (Option ℕ)) : Type 0 where
  pub below : (r : ℕ) → r < k → entry_of entries r ≡ entry r
  pub beyond : (r : ℕ) → k ≤ r → entry_of entries r ≡ None

module _ (entry : ℕ → Option ℕ) where
  pub copied_more : (k : ℕ) (read : Option ℕ) (entries : List (Option ℕ)) → k < length entries → read ≡ entry k → Copied entry k entries → Copied entry (k + 1) (set entries k read)
  copied_more k read entries inside is old =
      record {
        below = λ r h. elim (cases_eq r k) [
          | inl e ↦ ap (entry_of (set entries k read)) e ∙ get_or-set_same entries k read None inside ∙ is ∙ ap entry (sym e)
          | inr e ↦ get_or-set_other entries k r read None e ∙ old.below r (omega arith)
        ];
        beyond = λ r h. get_or-set_other entries k r read None (λ e. omega arith) ∙ old.beyond r (omega arith);
      }

  pub copied_leaves : (m k : ℕ) (entries : List (Option ℕ)) → Leaves m entry → Copied entry k entries → Leaves m (entry_of entries)
  copied_leaves m k entries leaves w r e p =
      elim (cases_lt r k) [
        | inl low ↦ leaves r e (sym (w.below r low) ∙ p)
        | inr high ↦ absurd (not_both (entry_of entries r) e p (w.beyond r high))
      ]

entries_same : (f g : ℕ → Option ℕ) → ((r : ℕ) → f r ≡ g r) → (r n : ℕ) → entries_from f r n ≡ entries_from g r n
entries_same f g same r zero = refl
entries_same f g same r (suc n) = cons_same (same r) (entries_same f g same (suc r) n)
  where
    cons_same : {a b : Option ℕ} {u w : List (Option ℕ)} → a ≡ b → u ≡ w → a ∷ u ≡ b ∷ w
    cons_same e h = cc

-- the same entries are written as the same bytes, and are a true table together
pub written_same : (row : List ℕ) (f g : ℕ → Option ℕ) → ((r : ℕ) → f r ≡ g r) → written row f ≡ written row g
written_same row f g same = ap (λ (zs : List (Option ℕ)). written_of zs) (entries_same f g same 0 (base_of row))
  where
    written_of : List (Option ℕ) → List ℕ
    written_of zs = head_bytes row ++ flat_map be16 (drop 1 row) ++ flat_map entry_bytes zs

pub table_same : (row : List ℕ) (f g : ℕ → Option ℕ) → ((r : ℕ) → f r ≡ g r) → Table row g → Table row f
table_same row f g same table =
    record {
      present = λ r e p. table.present r e (sym (same r) ∙ p);
      absent = λ r n low none made leaves. table.absent r n low (sym (same r) ∙ none) made leaves;
    }

-- no entry is listed from the base on
pub file_past : (bytes : List ℕ) (r : ℕ) → file_base bytes ≤ r → file_entry bytes r ≡ None
file_past bytes r h = cond-false (ltb r (file_base bytes)) _ None (le-ltb r (file_base bytes) h)

-- what a true file lists is what a book holds
module _ (bytes : List ℕ) (true : TrueFile bytes) (row : Row (file_row bytes)) where
  pub file_some : 1 ≤ file_base bytes
  file_some = (row.sizes 0 (omega arith)).0

  pub file_leaves : Leaves (file_base bytes) (file_entry bytes)
  file_leaves = leaves_from (file_base bytes) (file_others bytes) (file_entry bytes) file_some (file_past bytes)
      (complete (file_base bytes) (file_others bytes) (file_entry bytes) file_some true.table)

module _ (bytes : List ℕ) (true : TrueFile bytes) (row : Row (file_row bytes)) (entries : List (Option ℕ)) (same : (r : ℕ) → entry_of entries r ≡ file_entry bytes r) where
  pub listed_table : Table (file_row bytes) (entry_of entries)
  listed_table = table_same (file_row bytes) (entry_of entries) (file_entry bytes) same true.table

  past : (r : ℕ) → file_base bytes ≤ r → entry_of entries r ≡ None
  past r h = same r ∙ file_past bytes r h

  rules : Rules (file_base bytes) (file_others bytes) (entry_of entries)
  rules = complete (file_base bytes) (file_others bytes) (entry_of entries) (file_some bytes true row) listed_table

  pub listed_start : entry_of entries 0 ≡ Some 0
  listed_start = start_from (file_base bytes) (file_others bytes) (entry_of entries) (file_some bytes true row) past rules

  pub listed_closed : AllClosed (file_base bytes) (file_others bytes) (entry_of entries)
  listed_closed = closed_from (file_base bytes) (file_others bytes) (entry_of entries) (file_some bytes true row) past rules

  pub listed_stepped : AllStepped (file_base bytes) (file_others bytes) (entry_of entries)
  listed_stepped = stepped_from (file_base bytes) (file_others bytes) (entry_of entries) (file_some bytes true row) past rules
