use Rattle.std.proofs.Common.{Bool, ◌||◌, vec_items, sym, ap, ◌∙◌}
use Rattle.std.proofs.lemmas.Bool.{ne_eqb}
use Rattle.books.specs.Units.{has}
use Rattle.books.proofs.Lists.{found}
use Rattle.books.proofs.book.Book.holds.Goals as goal

pub returns-else-size-from : goal.returns-else-size-from
returns-else-size-from c =
    let book = c.args.self.now in
    c.is_ok.ensures.value
    ∙ found c.args.size (vec_items book.others) _ c.find.result c.as_slice.ensures.value book.rising c.find.ensures
    ∙ sym (ap (λ (b : Bool). b || has c.args.size (vec_items book.others)) (ne_eqb book.base c.args.size (λ e. c.if-size-from.false (sym (c.from.ensures ∙ e)))))
