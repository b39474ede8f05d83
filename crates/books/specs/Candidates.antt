-- The order in which the merge takes its candidates.
use Rattle.std.specs.Prelude.{◌≡◌, Bool, false, cond, ◌==◌, nat_lt}
use Rattle.std.specs.Cmp.{IsStrictWeakOrder}
use Rattle.std.proofs.Common.{rules}
use Rattle.books.specs.declared.rebuild.candidates.Candidate.{Candidate}

-- By load, and at one load by position.
abbrev pub sooner : Candidate → Candidate → Bool
sooner x y = cond (x.load == y.load) (nat_lt x.position y.position) (nat_lt x.load y.load)

pub sooner_ranks : IsStrictWeakOrder sooner
sooner_ranks = search rules

-- Those that differ never tie.
pub sooner_apart : (x y : Candidate) → sooner x y ≡ false → sooner y x ≡ false → x ≡ y
sooner_apart = search rules
