use Rattle.std.proofs.Common.{◌≡◌, ◌+◌, ◌*◌, ◌++◌, take, drop}
use Rattle.std.specs.List.{flat_map}
use Rattle.files.specs.Written.{entries_from, entry_bytes}
use Rattle.files.proofs.saving.write_entries.Given as goal

abbrev pub invariant-loop-remainder : goal.invariant-loop-remainder
invariant-loop-remainder g l =
    l.out
    ≡ take l.at l.initial.out ++ flat_map entry_bytes (take l.remainder (entries_from (g.S.Entries.entry l.source) 0 l.base)) ++ drop (l.at + 4 * l.remainder) l.initial.out
