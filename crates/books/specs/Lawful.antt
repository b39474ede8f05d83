-- Why every book keeps the sentences of a source: its invariant gives the rules, and these a ceiling for its entries.
-- The source cites this proof, so it stands among the definitions.
use Rattle.std.specs.Prelude.{◌≡◌, ℕ, ◌-◌, ◌<◌, ◌≤◌, length, Some, None, vec_items}
use Rattle.std.proofs.Common.{subst, arith, mod-lt}
use Rattle.std.proofs.lemmas.Nat.{mul-le}
use Rattle.std.proofs.lemmas.List.{get_or_past}
use Rattle.tables.specs.Tables.{Lawful}
use Rattle.tables.specs.Rules.{Rules}
use Rattle.tables.specs.Tests.{Leaves}
use Rattle.tables.proofs.Tested.{rules_from}
use Rattle.tables.proofs.Ceiling.{ceiling}
use Rattle.books.specs.declared.book.Book.{Book}
use Rattle.books.specs.Books.{table_of}

module _ (book : Book) where
  -- there are as many entries as the base says, so each leaves its remainder by it
  pub book_leaves : Leaves book.base (table_of book)
  book_leaves = subst (λ (m : ℕ). Leaves m (table_of book)) book.full book.stored.leaves

  pub book_rules : Rules book.base (vec_items book.others) (table_of book)
  book_rules =
      rules_from book.base (vec_items book.others) (table_of book) book.low book.start book_leaves book.closed book.stepped

  pub book_length : length (vec_items book.stored.entries) ≡ book.base
  book_length = omega (arith, book.stored.entries.ok.0, book.full)

  pub book_past : (r : ℕ) → book.base ≤ r → table_of book r ≡ None
  book_past r h = get_or_past (vec_items book.stored.entries) r None (omega (arith, book_length))

  pub book_below : (r e : ℕ) → table_of book r ≡ Some e → r < book.base
  book_below r e p = omega (arith, book_leaves r e p, mod-lt e book.low)

  -- no entry is above 4,095 times 65,535
  pub book_ceiling : (r e : ℕ) → table_of book r ≡ Some e → e ≤ 268365825
  book_ceiling r e p =
      omega (
        arith,
        ceiling book.base (vec_items book.others) (table_of book) book_rules book.sized 65535 book.small r e (book_below r e p) p,
        mul-le (book.base - 1) 65535 4095 65535 (omega (arith, book.high)) (omega arith),
      )

  pub book_lawful : Lawful book.base (table_of book)
  book_lawful =
      record {
        low = book.low;
        high = book.high;
        zero = book.start;
        past = book_past;
        leaves = book_leaves;
        fits = λ r e p. omega (arith, book_ceiling r e p);
      }
