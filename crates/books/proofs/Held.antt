-- What every book holds: the true table of its row, and room for each unit that may be admitted.
use Rattle.std.proofs.Common.{◌≡◌, ℕ, zero, suc, ◌-◌, ◌<◌, ◌≤◌, length, get_or, vec_items, arith}
use Rattle.std.proofs.lemmas.Nat.{mul-le}
use Rattle.tables.specs.Rows.{Row, Table}
use Rattle.tables.proofs.Tested.{table_from}
use Rattle.books.specs.declared.book.Book.{Book}
use Rattle.books.specs.Books.{row_of, table_of}
use Rattle.books.specs.Rings.{Room}
use Rattle.books.specs.Lawful.{book_leaves, book_past, book_ceiling}

module _ (book : Book) where
  -- the entries of a book are the true table of its row
  pub book_table : Table (row_of book) (table_of book)
  book_table =
      table_from book.base (vec_items book.others) (table_of book) book.low book.start (book_leaves book) book.closed book.stepped
      book.sized (book_past book)

  -- so every unit that may be admitted has room
  pub book_room : (g : ℕ) → g ≤ 65535 → Room book.base g (table_of book)
  book_room g h r e p =
      omega (arith, book_ceiling book r e p, mul-le (book.base - 1) g 4095 65535 (omega (arith, book.high)) h)

  pub book_row : Row (row_of book)
  book_row =
      record {
        base = book.high;
        few = omega (arith, book.few, book.others.ok.0);
        some = omega arith;
        sizes = sizes;
        rises = rises;
        apart = apart;
      }
    where
      sizes : (i : ℕ) → i < length (row_of book) → (1 ≤ get_or (row_of book) i 0) × (get_or (row_of book) i 0 ≤ 65535)
      sizes zero h = (book.low, omega (arith, book.high))
      sizes (suc i) h = (book.sized i (omega arith), book.small i (omega arith))

      rises : (i j : ℕ) → 1 ≤ i → i < j → j < length (row_of book) → get_or (row_of book) i 0 < get_or (row_of book) j 0
      rises zero j one h l = absurd (omega arith)
      rises (suc i) zero one h l = absurd (omega arith)
      rises (suc i) (suc j) one h l = book.rising i j (omega arith) (omega arith)

      apart : (i : ℕ) → 1 ≤ i → i < length (row_of book) → get_or (row_of book) i 0 ≡ book.base → ⊥
      apart zero one h e = absurd (omega arith)
      apart (suc i) one h e = book.apart i (omega arith) e
