use Rattle.std.proofs.Common.{◌≡◌, ℕ, ◌+◌, ◌-◌, List, [], ◌∷◌, ◌++◌, take, Some, sym, ap, ◌∙◌, arith}
use Rattle.files.specs.Layout.{file_base, file_others}
use Rattle.std.specs.List.{slice_get}
use Rattle.books.proofs.Filed.{take_nth}
use Rattle.books.proofs.Lists.{nth_after}
use Rattle.books.proofs.book.filing.refill_sizes.Goals as goal

pub loop-position-preserved : goal.loop-position-preserved
loop-position-preserved c =
    let others = file_others c.args.file.now in
    let k : ℕ = c.loop-position.position - 1 in
    let there : slice_get others k ≡ Some c.unwrap.result =
    sym (nth_after (file_base c.args.file.now) others c.loop-position.position c.loop-position.auto.position) ∙ sym c.size.ensures ∙ c.unwrap.ensures in
    let on : k + 1 ≡ c.loop-position.position + 1 - 1 = omega (arith, c.loop-position.auto.position) in (
      c.push_reserved.ensures.items
          ∙ ap (λ (zs : List ℕ). zs ++ c.unwrap.result ∷ []) c.loop-position.invariant.0
          ∙ sym (take_nth others k c.unwrap.result there)
          ∙ ap (λ (n : ℕ). take n others) on,
      omega (arith, c.push_reserved.ensures.len, c.loop-position.invariant.1, c.loop-position.auto.position),
      omega (arith, c.push_reserved.ensures.capacity, c.loop-position.invariant.2),
    )
