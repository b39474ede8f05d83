use Rattle.control.specs.Calls.{rejected}
use Rattle.control.proofs.Places.{rejects_short}
use Rattle.control.proofs.Told.{longer}
use Rattle.control.proofs.calls.tovleng_judge.Goals as goal

pub pack-requires : goal.pack-requires
pack-requires c = longer c.in-Err.reason (rejects_short c.args.file.now c.in-Err.reason c.in-Err.ensures.verdict.0)

pub returns-in-Err : goal.returns-in-Err
returns-in-Err c =
    let verdict = c.in-Err.ensures.verdict in
    rejected verdict.1 c.in-Err.reason verdict.0 c.pack.ensures
