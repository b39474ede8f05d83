use Rattle.std.proofs.Common.{ℕ, length, Some, vec_items, sym, ap, ◌∙◌, arith}
use Rattle.tables.specs.declared.refusals.Refusal.TheVariants.{NoRoom}
use Rattle.books.proofs.Clears.{left_short}
use Rattle.books.proofs.Held.{book_table}
use Rattle.books.proofs.Refused.{withdraw_short}
use Rattle.books.proofs.Turned.{turns_refused}
use Rattle.books.proofs.book.Book.withdraw.Goals as goal

pub returns-then-strip-m : goal.returns-then-strip-m
returns-then-strip-m c =
    let book = c.args.self.now in
    record {
      turns =
          turns_refused _ _ _ _
          (withdraw_short book.base (vec_items book.others) c.args.size (length c.args.strip.now) (omega (arith, c.from-m.ensures))
          ∙ ap (λ (k : ℕ). Some (NoRoom k)) (sym c.from-m.ensures));
      strip = left_short c.from-m.result book.base c.args.strip.now c.from-m.ensures;
      table = book_table book;
    }
