use Rattle.std.proofs.Common.{◌≡◌, ℕ, ◌+◌, ◌*◌, List, ◌++◌, take, drop, None, Option, sym, refl, ap, ◌∙◌, subst, arith}
use Rattle.files.specs.Fields.{be32}
use Rattle.files.specs.Written.{entries_from, entry_bytes, entry_number}
use Rattle.files.proofs.Fronts.{part_more, part_all}
use Rattle.files.proofs.Spelt.{entries_at, entries_length}
use Rattle.files.proofs.saving.write_entries.Goals as goal

pub loop-remainder-preserved : goal.loop-remainder-preserved
loop-remainder-preserved g c =
    let entry : ℕ → Option ℕ = g.S.Entries.entry c.args.source.now in
    let i : ℕ = c.loop-remainder.remainder in
    let os : List (Option ℕ) = entries_from entry 0 c.args.base in
    let at : ℕ = c.args.at + 4 * i in
    part_more entry_bytes 4 (λ x. refl) os None c.args.out.now c.loop-remainder.out _ c.args.at i
    (omega (arith, entries_length entry 0 c.args.base)) (omega arith) c.loop-remainder.invariant
    (subst (λ (bytes : List ℕ). c.write.new.out ≡ take at c.loop-remainder.out ++ bytes ++ drop (at + 4) c.loop-remainder.out)
    (c.to_be_bytes.ensures ∙ ap be32 (c.unwrap_or-number.ensures ∙ ap entry_number (c.least.ensures ∙ sym (entries_at entry c.args.base i (omega arith))))) c.write.ensures)

pub returns : goal.returns
returns g c =
    let entry : ℕ → Option ℕ = g.S.Entries.entry c.args.source.now in
    let os : List (Option ℕ) = entries_from entry 0 c.args.base in
    part_all entry_bytes 4 os c.args.out.now c.loop-remainder.out c.args.at c.loop-remainder.remainder c.args.base
    (omega (arith, entries_length entry 0 c.args.base)) (omega arith) c.loop-remainder.invariant
