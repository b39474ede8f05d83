-- What make answers: the numbers of a load that the row of a table makes, and why it refuses one.
use Rattle.std.proofs.Common.{◌≡◌, ℕ, ◌-◌, ◌*◌, ◌/◌, ◌%◌, ◌<◌, ◌≤◌, List, ◌++◌, length, get_or, take, drop, set, Some, None, Option, sym, refl, ap, ◌∙◌, subst, mod-lt, arith, length-set}
use Rattle.std.proofs.Math.Seq.{take-append_seam, drop-append_seam}
use Rattle.tables.specs.declared.refusals.Refusal.TheVariants.{NoRoom, Unmakeable}
use Rattle.tables.specs.Made.{Followed, Numbers, Made, Refuses, too_short, unmade}
use Rattle.tables.specs.Rows.{total, Row, Table, base_of}
use Rattle.tables.proofs.Counts.{total_base}
use Rattle.tables.proofs.Follows.{followed_length}
use Rattle.tables.proofs.Leasts.{base_some}
use Rattle.tables.proofs.One.{numbers_one}
use Rattle.tables.proofs.Unmade.{bases}

pub refuses_short : (row : List ℕ) (load room units : ℕ) → load ≤ 1000000000 → units ≡ length row → room < units → Refuses row load room (NoRoom units)
refuses_short row load room units small all short =
    subst (λ (n : ℕ). Refuses row load room (NoRoom n)) (sym all) (too_short small (omega arith))

-- the remainder of a load by the base of a row, which a source tells by another name
pub remainder_by : (row : List ℕ) {modulus told base : ℕ} (load : ℕ) → base_of row ≡ modulus → told ≡ modulus → base ≡ told → load % base ≡ load % base_of row
remainder_by row load based is wide = ap (λ (b : ℕ). load % b) (wide ∙ is ∙ sym based)

module _ (row : List ℕ) (entry : ℕ → Option ℕ) (ordered : Row row) (table : Table row entry) (load room r : ℕ) (small : load ≤ 1000000000) (enough : length row ≤ room) (leaves : r ≡ load % base_of row) where
  pub refuses_absent : entry r ≡ None → Refuses row load room (Unmakeable r)
  refuses_absent none =
      subst (λ (k : ℕ). Refuses row load room (Unmakeable k)) (sym leaves)
      (unmade small enough (λ makes. table.absent (load % base_of row) load (mod-lt load (base_some row ordered)) (ap entry (sym leaves) ∙ none) makes refl))

  pub refuses_below : (e : ℕ) → entry r ≡ Some e → load < e → Refuses row load room (Unmakeable r)
  refuses_below e present less =
      subst (λ (k : ℕ). Refuses row load room (Unmakeable k)) (sym leaves)
      (unmade small enough (λ makes. omega (arith, (table.present r e present).least load makes (sym leaves))))

module _ (row : List ℕ) (entry : ℕ → Option ℕ) (ordered : Row row) (table : Table row entry) (load : ℕ) where
  -- The counts of the steps stand in the first places, and the number of bases at the first of them.
  pub made : (r e units fill : ℕ) (before counts : List ℕ) → r ≡ load % base_of row → entry r ≡ Some e → e ≤ load → load ≤ 1000000000
      → units ≡ length row → units ≤ length before → fill ≡ (load - e) / base_of row
      → Followed row (e % base_of row) counts → total row counts ≡ e → get_or counts 0 0 ≡ 0
      → Made row load before units (set counts 0 fill ++ drop units before)
  made r e units fill before counts leaves present within small all room filled followed adds first =
      let e_leaves : e % base_of row ≡ load % base_of row = (table.present r e present).leaves ∙ leaves in
      let way : Followed row (load % base_of row) counts = subst (λ (k : ℕ). Followed row k counts) e_leaves followed in
      let long : length (set counts 0 fill) ≡ length row = length-set counts 0 fill ∙ followed_length way in
      let front : take (length row) (set counts 0 fill ++ drop units before) ≡ set counts 0 fill =
      ap (λ (n : ℕ). take n (set counts 0 fill ++ drop units before)) (sym long) ∙ take-append_seam (set counts 0 fill) (drop units before) in
      let numbers : Numbers row load (take (length row) (set counts 0 fill ++ drop units before)) =
      record {
        least = e;
        is_least = table.present (load % base_of row) e (ap entry (sym leaves) ∙ present);
        within = within;
        counts = counts;
        followed = way;
        are = front ∙ ap (set counts 0) filled;
      } in
      record {
        small = small;
        room = omega arith;
        all = all;
        numbers = numbers;
        adds =
            ap (total row) front
            ∙ total_base row counts fill ordered.some (followed_length way) first
            ∙ (let t : fill * base_of row ≡ (load - e) / base_of row * base_of row = ap (λ k. k * base_of row) filled in
            omega (arith, bases (base_of row) load e (base_some row ordered) e_leaves within));
        only = λ other o. numbers_one row (base_some row ordered) load other (take (length row) (set counts 0 fill ++ drop units before)) o numbers;
        rest =
            ap (λ (n : ℕ). drop n (set counts 0 fill ++ drop units before)) (sym long)
            ∙ drop-append_seam (set counts 0 fill) (drop units before)
            ∙ ap (λ (n : ℕ). drop n before) all;
      }
