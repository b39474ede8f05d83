use Rattle.sources.proofs.PairSteps.{step_there}
use Rattle.sources.proofs.pair.showing.PairShowing.step.Goals as goal

pub returns : goal.returns
returns c = step_there c.args.self.now c.args.remainder c.if-remainder-eq0.false c.if-remainder-base.false
