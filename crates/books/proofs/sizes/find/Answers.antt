use Rattle.std.proofs.Common.{rules}
use Rattle.std.proofs.lemmas.List.Sorted.{answers_always}
use Rattle.books.proofs.Located.{located}
use Rattle.books.proofs.sizes.find.Goals as goal

pub returns : goal.returns
returns c =
    located c.args.sizes.now c.args.size c.binary_search_by_key.result c.requires
    (c.binary_search_by_key.ensures.position (λ unit. unit) (answers_always _ _ _ (λ f a r g called. search rules)))
