use Rattle.waiting.proofs.Outs.{taken_out}
use Rattle.waiting.proofs.list.take_least.Goals as goal

pub returns : goal.returns
returns g c =
    taken_out g.T.Queued.before c.args.slots.now c.args.n c.in_ok-place.place c.in_ok-place.x c.index-slots-n.result
    c.requires c.in_ok-place.ensures.first c.in_ok-place.ensures.there c.index-slots-n.is
