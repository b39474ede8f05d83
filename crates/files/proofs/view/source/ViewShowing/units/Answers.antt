use Rattle.std.proofs.Common.{refl}
use Rattle.files.proofs.Viewed.{view_row, view_table}
use Rattle.files.proofs.view.source.ViewShowing.units.Goals as goal

pub returns : goal.returns
returns c =
    let v = c.args.self.now in
    record {
      value = c.units.ensures.listed v.some;
      ordered = view_row v;
      based = refl;
      table = view_table v;
    }
