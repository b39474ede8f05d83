use Rattle.std.proofs.Common.{◌≡◌, ℕ, ◌≤◌, List, ◌∷◌, length, Ok, vec_items, sym, ap, ◌∙◌, subst, arith}
use Rattle.tables.specs.Rows.{Table}
use Rattle.tables.specs.Tables.{entry_of}
use Rattle.books.specs.Units.{Sized, Small, Rising, Apart}
use Rattle.books.proofs.Clears.{cleared_all, left_cleared}
use Rattle.books.proofs.Held.{book_table}
use Rattle.books.proofs.Lists.{has_place, has_no_place, located}
use Rattle.books.proofs.Refused.{withdraw_base, withdraw_absent, withdraw_fits}
use Rattle.books.proofs.Removed.{out_each, out_rising, leave_out_is}
use Rattle.books.proofs.Tabled.{table_start, table_closed, table_stepped}
use Rattle.books.proofs.Turned.{turns_refused, turns_accepted}
use Rattle.books.proofs.book.Book.take_out.Goals as goal

pub returns-then-size-base : goal.returns-then-size-base
returns-then-size-base c =
    let book = c.args.self.now in
    record {
      turns =
          turns_refused _ _ _ _
          (withdraw_base book.base (vec_items book.others) c.args.size (length c.args.strip.now) (omega (arith, c.requires))
          (c.if-size-base.true ∙ c.from-base.ensures));
      strip =
          left_cleared book.base c.args.strip.now c.drop-marks.new.self.0 _
          (λ q. let z : ◌≡◌ {A = ℕ} 0 1 = cc in omega arith)
          (cleared_all book.base _ c.args.strip.now c.drop-marks.new.self.0 c.requires c.requires c.drop-marks.ensures);
      table = book_table book;
    }

pub returns-in_default : goal.returns-in_default
returns-in_default c =
    let book = c.args.self.now in
    let xs = vec_items book.others in
    record {
      turns =
          turns_refused _ _ _ _
          (withdraw_absent book.base xs c.args.size (length c.args.strip.now) (omega (arith, c.requires))
          (λ e. c.if-size-base.false (e ∙ sym c.from-base.ensures))
          (has_no_place c.args.size xs _ _ c.as_slice.ensures.value book.rising c.in_default.ensures));
      strip =
          left_cleared book.base c.args.strip.now c.drop-marks-in_default.new.self.0 _
          (λ q. let z : ◌≡◌ {A = ℕ} 0 1 = cc in omega arith)
          (cleared_all book.base _ c.args.strip.now c.drop-marks-in_default.new.self.0 c.requires c.requires c.drop-marks-in_default.ensures);
      table = book_table book;
    }

pub invariant_of-self-clause-sized : goal.invariant_of-self-clause-sized
invariant_of-self-clause-sized c =
    let xs = vec_items c.args.self.now.others in
    let lt = (located xs _ c.args.size (Ok c.in-Ok.at) c.as_slice.ensures.value c.in-Ok.ensures).0 in
    subst Sized (sym c.remove.ensures.items) (out_each xs c.in-Ok.at lt (λ (x : ℕ). 1 ≤ x) c.args.self.now.sized)

pub invariant_of-self-clause-small : goal.invariant_of-self-clause-small
invariant_of-self-clause-small c =
    let xs = vec_items c.args.self.now.others in
    let lt = (located xs _ c.args.size (Ok c.in-Ok.at) c.as_slice.ensures.value c.in-Ok.ensures).0 in
    subst Small (sym c.remove.ensures.items) (out_each xs c.in-Ok.at lt (λ (x : ℕ). x ≤ 65535) c.args.self.now.small)

pub invariant_of-self-clause-rising : goal.invariant_of-self-clause-rising
invariant_of-self-clause-rising c =
    let xs = vec_items c.args.self.now.others in
    let lt = (located xs _ c.args.size (Ok c.in-Ok.at) c.as_slice.ensures.value c.in-Ok.ensures).0 in
    subst Rising (sym c.remove.ensures.items) (out_rising xs c.in-Ok.at lt c.args.self.now.rising)

pub invariant_of-self-clause-apart : goal.invariant_of-self-clause-apart
invariant_of-self-clause-apart c =
    let book = c.args.self.now in
    let xs = vec_items book.others in
    let lt = (located xs _ c.args.size (Ok c.in-Ok.at) c.as_slice.ensures.value c.in-Ok.ensures).0 in
    subst (Apart book.base) (sym c.remove.ensures.items) (out_each xs c.in-Ok.at lt (λ (x : ℕ). x ≡ book.base → ⊥) book.apart)

pub invariant_of-self-clause-start : goal.invariant_of-self-clause-start
invariant_of-self-clause-start c =
    let book = c.args.self.now in
    let units = vec_items c.remove.new.self in
    let entries = vec_items c.tabulate.new.stored.entries in
    table_start book.base units entries book.low (omega (arith, c.tabulate.new.stored.entries.ok.0, c.tabulate.ensures.len, book.full))
    (subst (λ (row : List ℕ). Table row (entry_of entries)) (ap (λ (m : ℕ). m ∷ c.as_slice-2.result.now) book.full ∙ ap (λ (zs : List ℕ). book.base ∷ zs) c.as_slice-2.ensures.value) c.tabulate.ensures.table)

pub invariant_of-self-clause-closed : goal.invariant_of-self-clause-closed
invariant_of-self-clause-closed c =
    let book = c.args.self.now in
    let units = vec_items c.remove.new.self in
    let entries = vec_items c.tabulate.new.stored.entries in
    table_closed book.base units entries book.low (omega (arith, c.tabulate.new.stored.entries.ok.0, c.tabulate.ensures.len, book.full))
    (subst (λ (row : List ℕ). Table row (entry_of entries)) (ap (λ (m : ℕ). m ∷ c.as_slice-2.result.now) book.full ∙ ap (λ (zs : List ℕ). book.base ∷ zs) c.as_slice-2.ensures.value) c.tabulate.ensures.table)

pub invariant_of-self-clause-stepped : goal.invariant_of-self-clause-stepped
invariant_of-self-clause-stepped c =
    let book = c.args.self.now in
    let units = vec_items c.remove.new.self in
    let entries = vec_items c.tabulate.new.stored.entries in
    table_stepped book.base units entries book.low (omega (arith, c.tabulate.new.stored.entries.ok.0, c.tabulate.ensures.len, book.full))
    (subst (λ (row : List ℕ). Table row (entry_of entries)) (ap (λ (m : ℕ). m ∷ c.as_slice-2.result.now) book.full ∙ ap (λ (zs : List ℕ). book.base ∷ zs) c.as_slice-2.ensures.value) c.tabulate.ensures.table)

pub returns : goal.returns
returns c =
    let book = c.args.self.now in
    let xs = vec_items book.others in
    let l = located xs _ c.args.size (Ok c.in-Ok.at) c.as_slice.ensures.value c.in-Ok.ensures in
    record {
      turns =
          turns_accepted _ _ _ _
          (withdraw_fits book.base xs c.args.size (length c.args.strip.now) (omega (arith, c.requires))
          (λ e. c.if-size-base.false (e ∙ sym c.from-base.ensures))
          (has_place c.args.size xs _ _ c.as_slice.ensures.value c.in-Ok.ensures))
          (ap (λ (zs : List ℕ). book.base ∷ zs) (c.remove.ensures.items ∙ leave_out_is c.args.size xs c.in-Ok.at book.rising l.0 l.2));
      strip =
          left_cleared book.base c.args.strip.now c.drop-marks-2.new.self.0 _
          (λ q. let z : ◌≡◌ {A = ℕ} 0 1 = cc in omega arith)
          (cleared_all book.base _ c.args.strip.now c.drop-marks-2.new.self.0 c.requires (c.tabulate.auto.strip ∙ c.requires) c.drop-marks-2.ensures);
      table =
          subst (λ (row : List ℕ). Table row (entry_of (vec_items c.tabulate.new.stored.entries)))
          (ap (λ (m : ℕ). m ∷ c.as_slice-2.result.now) book.full ∙ ap (λ (zs : List ℕ). book.base ∷ zs) c.as_slice-2.ensures.value) c.tabulate.ensures.table;
    }
