use Rattle.std.proofs.Common.{refl, arith}
use Rattle.books.proofs.Held.{book_row, book_table}
use Rattle.books.proofs.book.showing.BookShowing.units.Goals as goal

pub returns : goal.returns
returns c =
    record {
      value = omega (arith, c.args.self.now.others.ok.0);
      ordered = book_row c.args.self.now;
      based = refl;
      table = book_table c.args.self.now;
    }
