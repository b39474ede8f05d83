use Rattle.std.proofs.lemmas.Result.{MatchResult-weaker}
use Rattle.tables.proofs.Unmade.{row_greatest, row_unending}
use Rattle.books.specs.Books.{row_of, table_of}
use Rattle.books.specs.Lawful.{book_lawful}
use Rattle.books.proofs.Held.{book_row, book_table}
use Rattle.books.proofs.book.Book.largest.Goals as goal

pub returns : goal.returns
returns c =
    let book = c.args.self.now in
    MatchResult-weaker c.largest.result c.largest.ensures
    (row_greatest (row_of book) (table_of book) (book_lawful book) (book_row book) (book_table book))
    (row_unending (row_of book) (table_of book) (book_lawful book) (book_row book) (book_table book))
