use Rattle.std.proofs.Common.{◌≡◌, refl, arith}
use Rattle.sources.proofs.MeetLoads.{meets_equal}
use Rattle.sources.proofs.meet.Meet.new.Goals as goal

pub returns-then-base : goal.returns-then-base
returns-then-base g c =
    let same : g.A.Entries.modulus c.args.first ≡ g.B.Entries.modulus c.args.second = omega arith in
    (refl, refl, meets_equal (g.A.Entries.modulus c.args.first) (g.B.Entries.modulus c.args.second) (g.A.Entries.entry c.args.first) (g.B.Entries.entry c.args.second) same)
