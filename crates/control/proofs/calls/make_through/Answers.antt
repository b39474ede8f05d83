use Rattle.std.proofs.Common.{take, ◌∙◌, arith}
use Rattle.std.proofs.lemmas.List.{length-take-le}
use Rattle.control.proofs.Told.{make_refused, refused_short, told_short}
use Rattle.control.proofs.calls.make_through.Goals as goal

pub in_bytes-requires : goal.in_bytes-requires
in_bytes-requires c = refused_short c.args.file.now c.args.load _ c.make_from.new.numbers c.in-Err.reason c.in-Err.ensures

pub pack-requires : goal.pack-requires
pack-requires c = told_short c.in-Err.reason c.in_bytes.result (refused_short c.args.file.now c.args.load _ c.make_from.new.numbers c.in-Err.reason c.in-Err.ensures) c.in_bytes.ensures

pub returns-in-Err : goal.returns-in-Err
returns-in-Err c =
    let room = c.min-room.result in
    let places = c.args.numbers.now in
    make_refused c.args.file.now c.args.load (take room places) c.make_from.new.numbers c.args.out.now c.pack.result c.in-Err.reason c.in_bytes.result c.in-Err.ensures
    (length-take-le room places (omega (arith, c.min-room.ensures, c.requires)) ∙ c.min-room.ensures) c.in_bytes.ensures c.pack.ensures
