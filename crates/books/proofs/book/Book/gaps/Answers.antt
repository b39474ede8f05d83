use Rattle.std.proofs.lemmas.Result.{MatchResult-weaker}
use Rattle.tables.proofs.Unmade.{row_count, row-unending}
use Rattle.books.specs.Books.{row_of, table_of}
use Rattle.books.specs.Lawful.{book-lawful}
use Rattle.books.proofs.Held.{book-row, book-table}
use Rattle.books.proofs.book.Book.gaps.Goals as goal

pub returns : goal.returns
returns c =
    let book = c.args.self.now in
    MatchResult-weaker c.gaps.result c.gaps.ensures
    (row_count (row_of book) (table_of book) (book-lawful book) (book-row book) (book-table book))
    (row-unending (row_of book) (table_of book) (book-lawful book) (book-row book) (book-table book))
