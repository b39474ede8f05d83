-- Loads that are closed under every unit are the least loads of their row.
use Rattle.std.proofs.Common.{◌≡◌, ℕ, zero, suc, ◌+◌, ◌%◌, ◌<◌, ◌≤◌, List, ◌∷◌, length, get_or, sym, refl, ap, ◌∙◌, subst, arith}
use native.Mathlib.Nat.{add-mod_right}
use Rattle.tables.specs.Rows.{total, Makes}
use Rattle.tables.proofs.Makeable.{kept, makes_none, makes_more}
use Rattle.books.specs.Leasts.{Leasts}
use Rattle.books.specs.Merges.{Covered, Ended}
use Rattle.books.proofs.Mods.{same_add}

module _ (m : ℕ) (sizes order : List ℕ) (n : ℕ) (t : Ended sizes m order n) where
  covers_zero : Covered m order n 0
  covers_zero = record { place = 0; inside = t.so_far.some; leaves = ap (λ (l : ℕ). l % m) t.so_far.first; within = rw t.so_far.first (omega arith) }

  -- each unit of the row leads from a covered load to one
  steps : (u l : ℕ) → u < length (m ∷ sizes) → Covered m order n l → Covered m order n (l + get_or (m ∷ sizes) u 0)
  steps zero l lt c = record { place = c.place; inside = c.inside; leaves = c.leaves ∙ sym (add-mod_right l m); within = (let w = c.within in omega arith) }
  steps (suc u) l lt c =
      let d = t.closed u c.place (omega arith) c.inside in
      record {
        place = d.place;
        inside = d.inside;
        leaves = d.leaves ∙ same_add m (get_or order c.place 0) l (get_or sizes u 0) (get_or sizes u 0) c.leaves refl;
        within = (let a = d.within in let b = c.within in omega arith);
      }

  -- so every load that the row makes has its remainder among the loads, at no greater load
  covers : (load : ℕ) → Makes (m ∷ sizes) load → Covered m order n load
  covers load made =
      let e : 0 + total (m ∷ sizes) made.counts ≡ load = omega (arith, made.adds) in
      subst (Covered m order n) e (kept (m ∷ sizes) (Covered m order n) steps made.counts 0 covers_zero)

  least : (k : ℕ) → k < n → (load : ℕ) → Makes (m ∷ sizes) load → load % m ≡ get_or order k 0 % m → get_or order k 0 ≤ load
  least k lt load made e =
      let c = covers load made in
      let same : c.place ≡ k = t.apart c.place k c.inside lt (c.leaves ∙ e) in
      subst (λ (i : ℕ). get_or order i 0 ≤ load) same c.within

  -- each load is made, from an earlier one and a unit
  makes_below : (f k : ℕ) → k < f → k < n → Makes (m ∷ sizes) (get_or order k 0)
  makes_below zero k kf kn = absurd (omega arith)
  makes_below (suc f) zero kf kn = subst (Makes (m ∷ sizes)) (sym t.so_far.first) (makes_none (m ∷ sizes))
  makes_below (suc f) (suc k) kf kn =
      let d = t.so_far.made (suc k) (omega arith) kn in
      let jk : d.0 < suc k = d.2 in
      subst (Makes (m ∷ sizes)) (sym d.4)
      (makes_more (m ∷ sizes) (suc d.1) (get_or order d.0 0) (let u = d.3 in omega arith) (makes_below f d.0 (omega arith) (omega arith)))

  pub leasts_from : Leasts m sizes order n
  leasts_from =
      record {
        inside = t.so_far.inside;
        makes = λ k lt. makes_below (suc k) k (omega arith) lt;
        least = least;
        all = λ load made. let c = covers load made in (c.place, c.inside, c.leaves);
        rises = t.so_far.rises;
        apart = t.apart;
      }
