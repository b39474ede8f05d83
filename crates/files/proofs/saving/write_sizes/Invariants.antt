use Rattle.std.proofs.Common.{◌≡◌, ◌+◌, ◌*◌, ◌++◌, take, drop}
use Rattle.std.specs.List.{flat_map}
use Rattle.files.specs.Fields.{be16}
use Rattle.files.proofs.saving.write_sizes.Given as goal

abbrev pub invariant-loop-place : goal.invariant-loop-place
invariant-loop-place g l =
    l.out ≡ take 8 l.initial.out ++ flat_map be16 (take l.place (drop 1 (g.S.Showing.row l.source))) ++ drop (8 + 2 * l.place) l.initial.out
