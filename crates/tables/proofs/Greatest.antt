-- The highest of the entries, and the greatest whole number that is not contained.
use Rattle.std.proofs.Common.{◌≡◌, ℕ, ◌+◌, ◌-◌, ◌%◌, ◌<◌, ◌≤◌, max, ℤ, pos, negsuc, ◌-ℤ◌, ◌<ℤ◌, Some, Option, sym, ap, ◌∙◌, subst, inl, inr, mod-lt, arith}
use native.Mathlib.Nat.{mod-le, mod-eq-sub-mod}
use Rattle.std.proofs.lemmas.Int.{ints}
use Rattle.std.proofs.lemmas.Bool.{cases_lt}
use Rattle.tables.specs.Missing.{Holds, GreatestMissing}
use Rattle.tables.specs.Tables.{Lawful, Within, Contains}
use Rattle.tables.proofs.Present.{same_entry, base_apart}

-- top is the highest of the first count entries, all present
pub record Highest (entry : ℕ → Option ℕ) (count top : ℕ) : Type 0 where
  pub within : (k : ℕ) → k < count → Within entry k top
  pub reached : ℕ
  pub top_is : entry reached ≡ Some top

pub highest_more : (entry : ℕ → Option ℕ) (count top load : ℕ) → Highest entry count top → entry count ≡ Some load → Highest entry (count + 1) (max load top)
highest_more entry count top load h p =
    elim (cases_lt load top) [
      | inl l ↦ (let e : top ≡ max load top = omega arith in
          subst (Highest entry (count + 1)) e (record { within = widened top (omega arith) (omega arith); reached = h.reached; top_is = h.top_is }))
      | inr l ↦ (let e : load ≡ max load top = omega arith in
          subst (Highest entry (count + 1)) e (record { within = widened load (omega arith) (omega arith); reached = count; top_is = p }))
    ]
  where
    widened : (up : ℕ) → top ≤ up → load ≤ up → (k : ℕ) → k < count + 1 → Within entry k up
    widened up a b k l =
        elim (cases_lt k count) [
          | inl before ↦ (let w : Within entry k top = h.within k before in record { least = w.least; present = w.present; within = omega (arith, w.within) })
          | inr here ↦ (let e : k ≡ count = omega arith in record { least = load; present = ap entry e ∙ p; within = b })
        ]

module _ (m : ℕ) (entry : ℕ → Option ℕ) (lawful : Lawful m entry) (top : ℕ) (highest : Highest entry m top) where
  -- all entries are present, so the last of them is at least m - 1
  all_but_one : m ≤ top + 1
  all_but_one =
      let w : Within entry (m - 1) top = highest.within (m - 1) (omega (arith, lawful.low)) in
      omega (arith, lawful.low, mod-le w.least m, lawful.leaves (m - 1) w.least w.present, w.within)

  top_missing : (n : ℕ) → n + m ≡ top → Contains m entry n → ⊥
  top_missing n adds c =
      let leaves : top % m ≡ highest.reached = lawful.leaves highest.reached top highest.top_is in
      let back : top % m ≡ n % m = mod-eq-sub-mod (omega arith) ∙ ap (λ k. k % m) (let q : top - m ≡ n = omega arith in q) in
      let e : top ≡ c.least = same_entry (entry (n % m)) top c.least (ap entry (sym back ∙ leaves) ∙ highest.top_is) c.present in
      omega (arith, c.within, lawful.low)

  above_held : (n : ℕ) → top < n + m → Contains m entry n
  above_held n less =
      let w : Within entry (n % m) top = highest.within (n % m) (mod-lt n lawful.low) in
      record {
        least = w.least;
        present = w.present;
        within = elim (cases_lt n w.least) [
          | inl h ↦ absurd (omega (arith, w.within, base_apart m n w.least (sym (lawful.leaves (n % m) w.least w.present)) h))
          | inr h ↦ h
        ];
      }

  pub greatest : (z : ℤ) → z ≡ pos top -ℤ pos m → GreatestMissing (Contains m entry) z
  greatest (pos n) e =
      record {
        missing = top_missing n (omega (arith, ints));
        above = λ y. elim y as (λ v. pos n <ℤ v → Holds (Contains m entry) v) [
          | pos k ↦ (λ l. above_held k (omega (arith, ints)))
          | negsuc k ↦ (λ l. absurd l.lt)
        ];
      }
  greatest (negsuc n) e =
      record {
        missing = λ held. held;
        above = λ y. elim y as (λ v. negsuc n <ℤ v → Holds (Contains m entry) v) [
          | pos k ↦ (λ l. above_held k (omega (arith, ints)))
          | negsuc k ↦ (λ l. absurd (let b : m ≤ top + 1 = all_but_one in omega (arith, ints)))
        ];
      }
