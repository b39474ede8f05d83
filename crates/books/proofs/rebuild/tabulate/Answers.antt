use Rattle.std.proofs.Common.{ℕ, List, length, vec_items, vec_len, subst}
use Rattle.books.specs.Leasts.{Entered, Leasts}
use Rattle.books.proofs.Filled.{table_filled}
use Rattle.books.proofs.rebuild.tabulate.Goals as goal

pub returns-clause-table : goal.returns-clause-table
returns-clause-table c =
    let m : ℕ = vec_len c.args.stored.now.entries in
    let loads : List ℕ = c.run.new.self.loads.now.list.items in
    table_filled m _ loads (length loads) _
    (subst (λ (n : ℕ). Leasts n c.args.others.now loads (length loads)) c.base-base.ensures
    (subst (λ (ss : List ℕ). Leasts c.base-base.result ss loads (length loads)) c.start.ensures.sizes c.run.ensures))
    (subst (λ (l : List ℕ). Entered m l (length l) (vec_items c.enter.new.self.entries)) c.as_slice.ensures c.enter.ensures.entered)
