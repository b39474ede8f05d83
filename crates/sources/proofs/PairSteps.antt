-- What a pair tells of its steps: the other unit at every remainder but 0.
use Rattle.std.proofs.Common.{◌≡◌, ℕ, ◌<◌, ◌≤◌, ◌⊎◌, Some, None, Option, refl, ap, inl, inr, arith}
use Rattle.tables.specs.Steps.{step_at}
use Rattle.tables.proofs.Present.{not_both}
use Rattle.tables.proofs.Firsts.{EntryStep, step_some, step_none}
use Rattle.sources.specs.NewPairs.{pair_entry, pair_row}
use Rattle.sources.specs.declared.pair.stored.Pair.{Pair}
use Rattle.sources.proofs.PairIs.{pair_is}
use Rattle.sources.proofs.PairShowing.{pair_table, pair_ordered}

module _ (pair : Pair) where
  -- what is told of a step
  pub step_there : (r : ℕ) → (r ≡ 0 → ⊥) → r < pair.base → Some 1 ≡ step_at (pair_row pair) (pair_entry pair) r
  step_there r above low = go (step_at (pair_row pair) (pair_entry pair) r) refl
    where
      go : (o : Option ℕ) → step_at (pair_row pair) (pair_entry pair) r ≡ o → Some 1 ≡ o
      go None p =
          elim (step_none (pair_row pair) (pair_entry pair) (pair_ordered pair) (pair_table pair) r p) [
            | inl z ↦ absurd (above z)
            | inr none ↦ absurd (not_both (pair_entry pair r) ((pair_is pair).entries r low).load ((pair_is pair).entries r low).present none)
          ]
      go (Some i) p =
          let s : EntryStep (pair_row pair) (pair_entry pair) r i = step_some (pair_row pair) (pair_entry pair) (pair_ordered pair) (pair_table pair) r i p in
          ap Some (let e : 1 ≡ i = omega (arith, s.other, s.inside) in e)

  pub step_absent : (r : ℕ) → (r ≡ 0) ⊎ (pair.base ≤ r) → None ≡ step_at (pair_row pair) (pair_entry pair) r
  step_absent r out = go (step_at (pair_row pair) (pair_entry pair) r) refl
    where
      go : (o : Option ℕ) → step_at (pair_row pair) (pair_entry pair) r ≡ o → None ≡ o
      go None p = refl
      go (Some i) p =
          let s : EntryStep (pair_row pair) (pair_entry pair) r i = step_some (pair_row pair) (pair_entry pair) (pair_ordered pair) (pair_table pair) r i p in
          elim out [
            | inl z ↦ absurd (s.nonzero z)
            | inr past ↦ absurd (not_both (pair_entry pair r) _ s.leads.after ((pair_is pair).past r past))
          ]
