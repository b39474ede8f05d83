use Rattle.std.proofs.Common.{ℕ, ◌+◌, ◌-◌, ◌*◌, List, Option, sym, ◌∙◌, arith}
use Rattle.files.specs.Written.{Saved}
use Rattle.files.proofs.Back.{reads_back}
use Rattle.files.proofs.Fronts.{saved_whole}
use Rattle.files.proofs.saving.save.Goals as goal

pub returns : goal.returns
returns g c =
    let s = c.args.source.now in
    let row : List ℕ = g.S.Showing.row s in
    let entry : ℕ → Option ℕ = g.S.Entries.entry s in
    let told = c.units-units.ensures in
    let size : ℕ = 8 + 2 * (c.units-units.result - 1) + 4 * c.base-base.result in
    let saved : Saved row entry c.args.out.now size c.write_entries.new.out =
    saved_whole row entry c.args.out.now c.write_head.new.out c.write_sizes.new.out c.write_entries.new.out
    c.units-units.result c.base-base.result told.value (c.base-base.ensures ∙ sym told.based) (omega arith)
    c.write_head.ensures c.write_sizes.ensures c.write_entries.ensures in
    record {
      saves = saved;
      back = reads_back row entry (g.S.Entries.modulus s) c.args.out.now size c.write_entries.new.out
          told.ordered told.based (g.met.S.Source.lawful s) told.table saved;
    }
