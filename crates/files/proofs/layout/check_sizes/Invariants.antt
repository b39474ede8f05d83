use Rattle.std.proofs.Common.{◌+◌}
use Rattle.files.specs.Layout.{Kept}
use Rattle.files.proofs.layout.check_sizes.Given as goal

abbrev pub invariant-loop-place : goal.invariant-loop-place
invariant-loop-place l = Kept l.file (4 + l.place)
