-- What a book holds: the row of its units, and the entries of its table.
use Rattle.std.specs.Prelude.{ℕ, List, ◌∷◌, vec_items, Option}
use Rattle.tables.specs.Tables.{entry_of}
use Rattle.books.specs.declared.book.Book.{Book}

-- The row of a book: its base, and then the other units.
abbrev pub row_of : Book → List ℕ
row_of book = book.base ∷ vec_items book.others

-- The entry that a book stores at each remainder.
abbrev pub table_of : Book → ℕ → Option ℕ
table_of book = entry_of (vec_items book.stored.entries)
