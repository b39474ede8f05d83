use Rattle.std.proofs.Common.{◌≡◌, ℕ, ◌≤◌, true, List, ◌∷◌, length, is_ok, None, Err, vec_items, vec_len, vec_capacity, sym, ap, ◌∙◌, subst, arith, rules}
use Rattle.std.specs.List.{insert}
use Rattle.std.proofs.lemmas.Bool.{cond-true}
use Rattle.std.proofs.lemmas.List.Edits.{length-insert}
use Rattle.std.proofs.lemmas.List.{get_or_past}
use Rattle.books.specs.Rings.{Extended, Room}
use Rattle.tables.specs.Rules.{Rules}
use Rattle.tables.specs.Tables.{entry_of}
use Rattle.tables.proofs.Tested.{start_from, closed_from, stepped_from}
use Rattle.books.specs.Lawful.{book_leaves, book_rules}
use Rattle.books.proofs.Held.{book_room, book_table}
use Rattle.books.proofs.Extends.{Joined, extended_rules, inserted_joined}
use Rattle.books.specs.Units.{Located, Sized, Small, Rising, Apart}
use Rattle.books.proofs.Inserted.{in_each, in_rising}
use Rattle.books.proofs.Lists.{has_place, has_no_place, put_is}
use Rattle.books.proofs.Refused.{admit_there, admit_full, admit_fits}
use Rattle.books.proofs.Turned.{turns_refused, turns_accepted}
use Rattle.books.proofs.book.Book.admit.Goals as goal

pub returns-in_err-check_range-clause-table : goal.returns-in_err-check_range-clause-table
returns-in_err-check_range-clause-table c = book_table c.args.self.now

pub returns-then-size-from : goal.returns-then-size-from
returns-then-size-from c = record { turns = search rules; table = book_table c.args.self.now }

pub returns-in_default : goal.returns-in_default
returns-in_default c =
    let xs = vec_items c.args.self.now.others in
    record {
      turns =
          turns_refused _ _ _ _
          (admit_there c.args.self.now.base xs c.args.size (λ e. c.if-size-from.false (sym e ∙ sym c.from.ensures))
          c.in_ok-check_range.ensures.0 c.in_ok-check_range.ensures.1 (has_place c.args.size xs _ _ c.as_slice.ensures.value c.in_default.ensures));
      table = book_table c.args.self.now;
    }

pub returns-then-len-ge-MOST_OTHERS : goal.returns-then-len-ge-MOST_OTHERS
returns-then-len-ge-MOST_OTHERS c =
    let xs = vec_items c.args.self.now.others in
    record {
      turns =
          turns_refused _ _ _ _
          (admit_full c.args.self.now.base xs c.args.size (λ e. c.if-size-from.false (sym e ∙ sym c.from.ensures))
          c.in_ok-check_range.ensures.0 c.in_ok-check_range.ensures.1
          (has_no_place c.args.size xs _ _ c.as_slice.ensures.value c.args.self.now.rising c.in-Err.ensures)
          (omega (arith, c.args.self.now.others.ok.0)));
      table = book_table c.args.self.now;
    }

-- the insert finds room, so it is made
is_put : (c : goal.After-insert) → vec_items c.insert.new.self ≡ insert (vec_items c.args.self.now.others) c.in-Err.at c.args.size
is_put c =
    let ok : is_ok c.insert.result ≡ true = c.insert.ensures.succeeds (omega (arith, c.args.self.now.room)) in
    c.insert.ensures.items ∙ cond-true _ _ _ ok

place : (c : goal.After-insert) → Located (vec_items c.args.self.now.others) c.args.size (Err c.in-Err.at)
place c = subst (λ (zs : List ℕ). Located zs c.args.size (Err c.in-Err.at)) c.as_slice.ensures.value c.in-Err.ensures

pub extend-requires : goal.extend-requires
extend-requires c =
    let book = c.args.self.now in
    subst (λ (z : ℕ). Room z c.args.size (entry_of (vec_items book.stored.entries))) (sym book.full) (book_room book c.args.size c.in_ok-check_range.ensures.1)

-- the new entries keep the rules of the row with the new unit
kept : (c : goal.After-insert) → Rules c.args.self.now.base (vec_items c.insert.new.self) (entry_of (vec_items c.extend.new.self.entries))
kept c =
    let book = c.args.self.now in
    let xs = vec_items book.others in
    let l = place c in
    extended_rules book.base c.args.size xs (vec_items c.insert.new.self) (entry_of (vec_items book.stored.entries)) (entry_of (vec_items c.extend.new.self.entries)) book.low
    (subst (λ (z : ℕ). Extended z c.args.size (entry_of (vec_items book.stored.entries)) (entry_of (vec_items c.extend.new.self.entries))) book.full c.extend.ensures.extended)
    (book_leaves book) (book_rules book)
    (subst (Joined c.args.size xs) (sym (is_put c)) (inserted_joined xs c.in-Err.at c.args.size l.0))

pub invariant_of-self : goal.invariant_of-self
invariant_of-self c =
    let book = c.args.self.now in
    let xs = vec_items book.others in
    let at = c.in-Err.at in
    let g = c.args.size in
    let e = is_put c in
    let l = place c in
    let units = vec_items c.insert.new.self in
    let nu = vec_items c.extend.new.self.entries in
    let sized : Sized units = subst Sized (sym e) (in_each xs at g l.0 (λ (x : ℕ). 1 ≤ x) book.sized c.in_ok-check_range.ensures.0) in
    let small : Small units = subst Small (sym e) (in_each xs at g l.0 (λ (x : ℕ). x ≤ 65535) book.small c.in_ok-check_range.ensures.1) in
    let rising : Rising units = subst Rising (sym e) (in_rising xs at g l.0 book.rising l.1 l.2) in
    let apart : Apart book.base units =
    subst (Apart book.base) (sym e) (in_each xs at g l.0 (λ (x : ℕ). x ≡ book.base → ⊥) book.apart (λ q. c.if-size-from.false (q ∙ sym c.from.ensures))) in
    let few : vec_len c.insert.new.self ≤ 15 = omega (arith, c.insert.new.self.ok.0, ap length e, length-insert xs at g l.0, book.others.ok.0) in
    let room : 15 ≤ vec_capacity c.insert.new.self = omega (arith, book.room, c.insert.ensures.capacity) in
    let full : vec_len c.extend.new.self.entries ≡ book.base = c.extend.ensures.len ∙ book.full in
    let past : (r : ℕ) → book.base ≤ r → entry_of nu r ≡ None =
    λ r h. get_or_past nu r None (omega (arith, c.extend.new.self.entries.ok.0, full)) in
    let start = start_from book.base units (entry_of nu) book.low past (kept c) in
    let closed = closed_from book.base units (entry_of nu) book.low past (kept c) in
    let stepped = stepped_from book.base units (entry_of nu) book.low past (kept c) in
    record {
      low = book.low;
      high = book.high;
      sized = sized;
      small = small;
      rising = rising;
      apart = apart;
      few = few;
      room = room;
      full = full;
      start = start;
      closed = closed;
      stepped = stepped;
    }

pub returns : goal.returns
returns c =
    let xs = vec_items c.args.self.now.others in
    let l = subst (λ (zs : List ℕ). Located zs c.args.size (Err c.in-Err.at)) c.as_slice.ensures.value c.in-Err.ensures in
    let ok : is_ok c.insert.result ≡ true = c.insert.ensures.succeeds (omega (arith, c.args.self.now.room)) in
    record {
      turns =
          turns_accepted _ _ _ _
          (admit_fits c.args.self.now.base xs c.args.size (λ e. c.if-size-from.false (sym e ∙ sym c.from.ensures))
          c.in_ok-check_range.ensures.0 c.in_ok-check_range.ensures.1
          (has_no_place c.args.size xs _ _ c.as_slice.ensures.value c.args.self.now.rising c.in-Err.ensures)
          (omega (arith, c.args.self.now.others.ok.0)))
          (ap (λ (l : List ℕ). c.args.self.now.base ∷ l)
          (c.insert.ensures.items ∙ cond-true _ _ _ ok ∙ put_is c.args.size xs c.in-Err.at l.0 l.1 l.2));
      table = search (rules, book_table);
    }
