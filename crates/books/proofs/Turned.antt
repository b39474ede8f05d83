-- How a call shows what it did to the book.
use Rattle.std.proofs.Common.{◌≡◌, ℕ, List, Some, None, Ok, Err, Option, sym, refl, subst}
use Rattle.tables.specs.declared.refusals.Refusal.{Refusal}
use Rattle.books.specs.declared.book.Book.{Book}
use Rattle.books.specs.Books.{row_of}
use Rattle.books.specs.Calls.{Turns}

pub turns_refused : (o : Option Refusal) (row : List ℕ) (before : Book) (reason : Refusal) → o ≡ Some reason → Turns o row before (Err reason) before
turns_refused o row before reason e =
    subst (λ (p : Option Refusal). Turns p row before (Err reason) before) (sym e) (refl, refl)

pub turns_accepted : (o : Option Refusal) (row : List ℕ) (before now : Book) → o ≡ None → row_of now ≡ row → Turns o row before (Ok tt) now
turns_accepted o row before now e h =
    subst (λ (p : Option Refusal). Turns p row before (Ok tt) now) (sym e) (refl, h)
