-- What is put into a waiting list that is not full.
use Rattle.std.proofs.Common.{◌≡◌, ℕ, ◌<◌, true, List, [], ◌∷◌, ◌++◌, length, is_ok, Ok, Err, Result, refl, arith}
use Rattle.tables.specs.declared.refusals.Refusal.{Refusal}
use Rattle.waiting.specs.Lists.{Put}

-- where there is room, one more is put in
pub put_fits : {X : Type 0} (most : ℕ) (xs ys : List X) (x : X) (r : Result (Unit {0}) Refusal) → length xs < most → Put most xs ys x r → is_ok r ≡ true
put_fits most xs ys x (Ok _) h p = refl
put_fits most xs ys x (Err reason) h p = absurd (omega (arith, p.1))

pub put_lands : {X : Type 0} (most : ℕ) (xs ys : List X) (x : X) (r : Result (Unit {0}) Refusal) → length xs < most → Put most xs ys x r → ys ≡ xs ++ x ∷ []
put_lands most xs ys x (Ok _) h p = p.1
put_lands most xs ys x (Err reason) h p = absurd (omega (arith, p.1))
