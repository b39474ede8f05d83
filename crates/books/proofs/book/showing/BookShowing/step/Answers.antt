use Rattle.std.proofs.lemmas.Grind.{common_steps}
use Rattle.std.proofs.Common.{rules, arith, ◌≡◌, ◌+◌, true, false, vec_items, ◌∙◌}
use borrow.Author.Tests.{tests}
use Rattle.std.specs.Option.{option_map}
use Rattle.std.proofs.lemmas.Iterator.{IsFirst-from_position, YieldsList-from_slice}
use Rattle.tables.specs.Steps.{steps, step_at}
use Rattle.tables.proofs.Tested.{step_by_place}
use Rattle.books.specs.Books.{row_of, table_of}
use Rattle.books.proofs.book.showing.BookShowing.step.Goals as goal

pub returns : goal.returns
returns c =
    let book = c.args.self.now in
    let told : option_map (λ i. i + 1) c.position-place.result ≡ step_at (row_of book) (table_of book) c.args.remainder =
    step_by_place book.base (table_of book) c.args.remainder (vec_items book.others) c.position-place.result
    (IsFirst-from_position _ _ c.position-place.result (λ g. steps book.base (table_of book) c.args.remainder g ≡ true) (λ g. steps book.base (table_of book) c.args.remainder g ≡ false)
    c.position-place.ensures.ran (YieldsList-from_slice (vec_items book.others) (c.iter-others.ensures.rest ∙ c.deref.ensures.value)) (λ x q k. search (rules, tests)) (λ x q k. search (rules, tests))) in
    let shifted : c.map.result ≡ option_map (λ i. i + 1) c.position-place.result = grind (arith, common_steps) in
    shifted ∙ told
