use Rattle.std.proofs.Common.{◌≡◌, ◌*◌, ◌++◌, take, drop}
use Rattle.std.specs.List.{flat_map}
use Rattle.files.specs.Fields.{be32}
use Rattle.control.proofs.calls.write_numbers.Given as goal

abbrev pub invariant-loop-at : goal.invariant-loop-at
invariant-loop-at l = l.out ≡ flat_map be32 (take l.at l.numbers) ++ drop (4 * l.at) l.initial.out
