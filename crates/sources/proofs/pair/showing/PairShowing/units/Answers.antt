use Rattle.std.proofs.Common.{refl}
use Rattle.sources.proofs.PairShowing.{pair_ordered, pair_table}
use Rattle.sources.proofs.pair.showing.PairShowing.units.Goals as goal

pub returns : goal.returns
returns c = record { value = refl; ordered = pair_ordered c.args.self.now; based = refl; table = pair_table c.args.self.now }
