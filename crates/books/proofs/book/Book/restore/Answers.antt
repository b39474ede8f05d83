use Rattle.std.proofs.Common.{◌≡◌, ℕ, suc, ◌≤◌, List, ◌∷◌, length, vec_items, vec_len, sym, refl, ap, ◌∙◌, subst, arith}
use Rattle.files.specs.Layout.{file_base, file_entry, file_others, file_row}
use Rattle.files.specs.Written.{written}
use Rattle.std.proofs.lemmas.Result.{err_from_is_err_and}
use Rattle.tables.specs.Rows.{Table}
use Rattle.tables.specs.Tables.{entry_of}
use Rattle.tables.specs.Tests.{AllClosed, AllStepped}
use Rattle.books.specs.Units.{Apart, Rising, Sized, Small}
use Rattle.books.proofs.Filed.{listed_closed, listed_start, listed_stepped, listed_table, written_same}
use Rattle.books.proofs.Held.{book_table}
use Rattle.books.proofs.book.Book.restore.Goals as goal

pub returns-in_err-judge : goal.returns-in_err-judge
returns-in_err-judge c =
    let p = err_from_is_err_and c.from_residual.result c.from_residual.ensures.1 in
    rw (p.1, p.2) (record { turns = (c.in_err-judge.ensures.verdict, refl); table = book_table c.args.self.now })

pub invariant_of-self : goal.invariant_of-self
invariant_of-self c =
    let bytes = c.args.file.now in
    let true = c.in_ok-judge.ensures.verdict in
    let row = c.in_ok-judge.ensures.again.row in
    let is = c.base.ensures in
    let e : vec_items c.refill_sizes.new.sizes ≡ file_others bytes = c.refill_sizes.ensures.items in
    let units = vec_items c.refill_sizes.new.sizes in
    let entries = vec_items c.refill.new.self.entries in
    let are = c.refill.ensures.entries in
    let low : 1 ≤ c.base.result = omega (arith, is, (row.sizes 0 (omega arith)).0) in
    let high : c.base.result ≤ 4096 = omega (arith, is, row.base) in
    let sized : Sized units = subst Sized (sym e) (λ i h. (row.sizes (suc i) (omega arith)).0) in
    let small : Small units = subst Small (sym e) (λ i h. (row.sizes (suc i) (omega arith)).1) in
    let rising : Rising units = subst Rising (sym e) (λ i j less h. row.rises (suc i) (suc j) (omega arith) (omega arith) (omega arith)) in
    let apart : Apart c.base.result units =
    subst (Apart c.base.result) (sym e) (λ i h q. row.apart (suc i) (omega arith) (omega arith) (q ∙ is)) in
    let few : vec_len c.refill_sizes.new.sizes ≤ 15 = omega (arith, c.refill_sizes.new.sizes.ok.0, ap (λ (zs : List ℕ). length zs) e, row.few) in
    let full : vec_len c.refill.new.self.entries ≡ c.base.result = c.refill.ensures.len ∙ sym is in
    let closed : AllClosed c.base.result units (entry_of entries) =
    subst (λ (m : ℕ). AllClosed m units (entry_of entries)) (sym is) (subst (λ (zs : List ℕ). AllClosed (file_base bytes) zs (entry_of entries)) (sym e) (listed_closed bytes true row entries are)) in
    let stepped : AllStepped c.base.result units (entry_of entries) =
    subst (λ (m : ℕ). AllStepped m units (entry_of entries)) (sym is) (subst (λ (zs : List ℕ). AllStepped (file_base bytes) zs (entry_of entries)) (sym e) (listed_stepped bytes true row entries are)) in
    record {
      low = low;
      high = high;
      sized = sized;
      small = small;
      rising = rising;
      apart = apart;
      few = few;
      room = c.refill_sizes.ensures.room;
      full = full;
      start = listed_start bytes true row entries are;
      closed = closed;
      stepped = stepped;
    }

pub returns : goal.returns
returns c =
    let bytes = c.args.file.now in
    let true = c.in_ok-judge.ensures.verdict in
    let again = c.in_ok-judge.ensures.again in
    let entries = vec_items c.refill.new.self.entries in
    let are = c.refill.ensures.entries in
    let listed : c.base.result ∷ vec_items c.refill_sizes.new.sizes ≡ file_row bytes =
    ap (λ (m : ℕ). m ∷ vec_items c.refill_sizes.new.sizes) c.base.ensures ∙ ap (λ (zs : List ℕ). file_base bytes ∷ zs) c.refill_sizes.ensures.items in
    record {
      turns = record {
        accepted = true;
        row = listed;
        entries = are;
        again =
            ap (λ (zs : List ℕ). written zs (entry_of entries)) listed
            ∙ written_same (file_row bytes) (entry_of entries) (file_entry bytes) are
            ∙ again.again;
      };
      table = subst (λ (zs : List ℕ). Table zs (entry_of entries)) (sym listed) (listed_table bytes true again.row entries are);
    }
