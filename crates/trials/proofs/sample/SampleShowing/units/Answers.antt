use Rattle.std.proofs.Common.{suc, [], ◌∷◌, refl, arith}
use Rattle.tables.proofs.Computed.{computed_row, computed_table}
use Rattle.trials.specs.Sampled.{sampled}
use Rattle.trials.proofs.sample.SampleShowing.units.Goals as goal

pub returns : goal.returns
returns c =
    let row = computed_row 5 (8 ∷ 12 ∷ []) (omega arith) (omega arith) (omega arith) refl refl in
    record {
      value = refl;
      ordered = row;
      based = refl;
      table = computed_table (8 ∷ 12 ∷ []) sampled refl (λ j h. (row.sizes (suc j) (omega arith)).0) refl refl;
    }
