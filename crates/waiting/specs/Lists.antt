-- What a waiting list holds after one more is put in, and after the least is taken out.
use Rattle.std.specs.Prelude.{◌≡◌, ℕ, ◌-◌, ◌<◌, Bool, false, List, [], ◌∷◌, ◌++◌, length, get_or, take, Some, None, Ok, Err, Option, Result, slice_index_or, slice_set}
use Rattle.tables.specs.declared.refusals.Refusal.{Refusal}
use Rattle.tables.specs.declared.refusals.Refusal.TheVariants.{ListFull}
use Rattle.waiting.specs.declared.list.Waiting.{Waiting}

-- what waits: the first len slots, or all of them where there are fewer
abbrev pub waits : {X : Type 0} → Waiting X → List X
waits w = take w.len w.slots.now

-- how many can wait
abbrev pub room : {X : Type 0} → Waiting X → ℕ
room w = length w.slots.now

-- the list without what stands at i, whose place the last one takes
abbrev pub without : {X : Type 0} → List X → ℕ → X → List X
without xs i d = take (length xs - 1) (slice_set xs i (slice_index_or xs (length xs - 1) d))

-- x stands in xs at a place, and none in xs is before it; it is taken out at its place
pub record Least {X : Type 0} (before : X → X → Bool) (xs ys : List X) (x : X) : Type 0 where
  pub place : ℕ
  pub inside : place < length xs
  pub there : get_or xs place x ≡ x
  pub least : (k : ℕ) → k < length xs → before (slice_index_or xs k x) x ≡ false
  pub leaves : ys ≡ without xs place x

-- the least is taken out where there is one
abbrev pub Taken : {X : Type 0} → (X → X → Bool) → List X → List X → Option X → Type 0
Taken before xs ys None = (xs ≡ []) × (ys ≡ [])
Taken before xs ys (Some x) = Least before xs ys x

-- x is put in last, or refused where as many wait as there is room for
abbrev pub Put : {X : Type 0} → ℕ → List X → List X → X → Result (Unit {0}) Refusal → Type 0
Put most xs ys x (Ok _) = (length xs < most) × (ys ≡ xs ++ x ∷ [])
Put most xs ys x (Err reason) = (reason ≡ ListFull most) × (length xs ≡ most) × (ys ≡ xs)
