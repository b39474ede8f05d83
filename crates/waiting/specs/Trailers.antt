-- The order in which trailers wait.
use Rattle.std.specs.Prelude.{◌≡◌, Bool, false, cond, ◌==◌, nat_lt}
use Rattle.std.specs.Cmp.{IsStrictWeakOrder}
use Rattle.std.proofs.Common.{rules}
use Rattle.waiting.specs.declared.trailers.Trailer.{Trailer}

-- by minute, at one minute by line, and at one line by load
abbrev pub earlier : Trailer → Trailer → Bool
earlier x y =
    cond (x.minute == y.minute)
    (cond (x.line == y.line) (nat_lt x.load y.load) (nat_lt x.line y.line))
    (nat_lt x.minute y.minute)

pub earlier_ranks : IsStrictWeakOrder earlier
earlier_ranks = search rules

-- Those that differ never tie.
pub earlier_apart : (x y : Trailer) → earlier x y ≡ false → earlier y x ≡ false → x ≡ y
earlier_apart = search rules
