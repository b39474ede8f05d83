use Rattle.std.proofs.Common.{◌≡◌, ℕ, ◌+◌, ◌%◌, ◌≤◌, true, is_ok, None, vec_items, vec_len, vec_capacity, sym, ◌∙◌, subst, arith}
use Rattle.files.specs.Layout.{file_base, file_entry}
use Rattle.std.proofs.lemmas.Bool.{cond-true}
use Rattle.tables.specs.Tables.{entry_of}
use Rattle.tables.proofs.Present.{not_both}
use Rattle.books.proofs.Filed.{copied_leaves, copied_more, emptied, file_leaves, file_some}
use Rattle.books.proofs.stored.Stored.refill.Goals as goal

pub invariant_of-self : goal.invariant_of-self
invariant_of-self c =
    let ok : is_ok c.resize.result ≡ true = c.resize.ensures.succeeds (omega (arith, c.base-base.ensures, c.requires.again.row.base, c.clear.ensures.capacity, c.args.self.now.space)) in
    let full : vec_len c.resize.new.self ≡ c.base-base.result = c.resize.ensures.len ∙ cond-true _ _ _ ok in
    let some : 1 ≤ vec_len c.resize.new.self = omega (arith, full, c.base-base.ensures, file_some c.args.file.now c.requires.accepted c.requires.again.row) in
    let few : vec_len c.resize.new.self ≤ 4096 = omega (arith, full, c.base-base.ensures, c.requires.again.row.base) in
    let space : 4096 ≤ vec_capacity c.resize.new.self = omega (arith, c.resize.ensures.capacity, c.clear.ensures.capacity, c.args.self.now.space) in
    let absent : (r : ℕ) → entry_of (vec_items c.resize.new.self) r ≡ None =
    emptied _ _ _ _ c.clear.ensures.items (c.resize.ensures.items ∙ cond-true _ _ _ ok) in
    record { some = some; few = few; space = space; leaves = λ r e p. absurd (not_both (entry_of (vec_items c.resize.new.self) r) e p (absent r)) }

pub invariant_of-self-in-loop-remainder-clause-leaves : goal.invariant_of-self-in-loop-remainder-clause-leaves
invariant_of-self-in-loop-remainder-clause-leaves c =
    let bytes = c.args.file.now in
    let w = copied_more (file_entry bytes) c.loop-remainder.remainder c.entry.result (vec_items c.loop-remainder.self.entries)
    (omega (arith, c.loop-remainder.invariant.0, c.loop-remainder.self.entries.ok.0, c.base-base.ensures)) c.entry.ensures c.loop-remainder.invariant.1 in
    λ r e p. subst (λ m. e % m ≡ r) (sym c.loop-remainder.invariant.0)
    (copied_leaves (file_entry bytes) (file_base bytes) (c.loop-remainder.remainder + 1) _ (file_leaves bytes c.requires.accepted c.requires.again.row) w r e p)
