use Rattle.std.proofs.Common.{ℕ, List, vec_items, Decides, sym, subst}
use Rattle.std.proofs.lemmas.Bool.Decides.{not_from_Decides}
use Rattle.books.specs.Units.{Multiple, Spare}
use Rattle.books.proofs.Multiples.{spare_after}
use Rattle.books.proofs.book.Book.makes_up.Goals as goal

pub returns-else-multiple : goal.returns-else-multiple
returns-else-multiple c =
    let book = c.args.self.now in
    let size = c.args.size in
    spare_after book.base size (vec_items book.others) c.multiple_of_some.result
    (λ m. not_from_Decides c.multiple.result c.multiple.ensures c.if-multiple.false (subst (λ (z : ℕ). Multiple z size) (sym c.from.ensures) m))
    (subst (λ (xs : List ℕ). Decides c.multiple_of_some.result (Spare xs size)) c.as_slice.ensures.value c.multiple_of_some.ensures)
