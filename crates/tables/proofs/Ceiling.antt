-- No entry of a table that keeps the rules is larger than its base less one times the largest other unit.
use Rattle.std.proofs.Common.{◌≡◌, ℕ, zero, suc, ◌+◌, ◌-◌, ◌*◌, ◌<◌, ◌≤◌, Bool, cond, ltb, List, ◌∷◌, length, get_or, Some, None, Option, refl, ap, ◌∙◌, inl, inr, suc-mul, arith}
use Rattle.std.proofs.lemmas.Nat.{mul-le}
use Rattle.std.proofs.lemmas.Bool.{cases_lt, lt-ltb, le-ltb}
use Rattle.tables.specs.Rows.{Table}
use Rattle.tables.specs.Rules.{ReachedBySome, Rules}
use Rattle.tables.proofs.Certificate.{complete}
use Rattle.tables.proofs.Present.{same_entry}

-- whether an entry is present and below a bound, as 1 or 0
abbrev under : Option ℕ → ℕ → ℕ
under None bound = 0
under (Some e) bound = cond (ltb e bound) 1 0

-- how many of the first k entries are present and below a bound
abbrev count : (ℕ → Option ℕ) → ℕ → ℕ → ℕ
count entry bound zero = 0
count entry bound (suc k) = under (entry k) bound + count entry bound k

under_in : (o : Option ℕ) (x bound : ℕ) → o ≡ Some x → x < bound → under o bound ≡ 1
under_in o x bound p h = ap (λ (q : Option ℕ). under q bound) p ∙ ap (λ (b : Bool). cond b 1 0) (lt-ltb x bound h)

under_out : (o : Option ℕ) (x bound : ℕ) → o ≡ Some x → bound ≤ x → under o bound ≡ 0
under_out o x bound p h = ap (λ (q : Option ℕ). under q bound) p ∙ ap (λ (b : Bool). cond b 1 0) (le-ltb x bound h)

under_one : (o : Option ℕ) (bound : ℕ) → under o bound ≤ 1
under_one None bound = omega arith
under_one (Some e) bound =
    elim (cases_lt e bound) [
      | inl h ↦ omega (arith, under_in (Some e) e bound refl h)
      | inr h ↦ omega (arith, under_out (Some e) e bound refl h)
    ]

under_more : (o : Option ℕ) (low high : ℕ) → low ≤ high → under o low ≤ under o high
under_more None low high l = omega arith
under_more (Some e) low high l =
    elim (cases_lt e low) [
      | inl h ↦ omega (arith, under_in (Some e) e low refl h, under_in (Some e) e high refl (omega arith))
      | inr h ↦ omega (arith, under_out (Some e) e low refl h)
    ]

module _ (entry : ℕ → Option ℕ) where
  count_all : (bound k : ℕ) → count entry bound k ≤ k
  count_all bound zero = omega arith
  count_all bound (suc k) = omega (arith, under_one (entry k) bound, count_all bound k)

  count_more : (low high k : ℕ) → low ≤ high → count entry low k ≤ count entry high k
  count_more low high zero l = omega arith
  count_more low high (suc k) l = omega (arith, under_more (entry k) low high l, count_more low high k l)

  -- an entry between two bounds is counted by the second only
  count_between : (low high k r x : ℕ) → r < k → entry r ≡ Some x → low ≤ x → x < high → count entry low k < count entry high k
  count_between low high zero r x h p l u = absurd (omega arith)
  count_between low high (suc k) r x h p l u =
      elim (cases_lt r k) [
        | inl g ↦ omega (arith, under_more (entry k) low high (omega arith), count_between low high k r x g p l u)
        | inr g ↦
            let at : entry k ≡ Some x = ap entry (let q : k ≡ r = omega arith in q) ∙ p in
            omega (arith, under_out (entry k) x low at l, under_in (entry k) x high at u, count_more low high k (omega arith))
      ]

  -- an entry that is not below the bound is not counted
  count_but : (bound k r x : ℕ) → r < k → entry r ≡ Some x → bound ≤ x → count entry bound k < k
  count_but bound zero r x h p l = absurd (omega arith)
  count_but bound (suc k) r x h p l =
      elim (cases_lt r k) [
        | inl g ↦ omega (arith, under_one (entry k) bound, count_but bound k r x g p l)
        | inr g ↦
            let at : entry k ≡ Some x = ap entry (let q : k ≡ r = omega arith in q) ∙ p in
            omega (arith, under_out (entry k) x bound at l, count_all bound k)
      ]

module _ (m : ℕ) (others : List ℕ) (entry : ℕ → Option ℕ) (rules : Rules m others entry)
    (sizes : (j : ℕ) → j < length others → 1 ≤ get_or others j 0)
    (bound : ℕ) (most : (j : ℕ) → j < length others → get_or others j 0 ≤ bound) where
  -- an entry is at most the bound for each entry below it, since each step goes down to a lower one
  climbs : (fuel r e : ℕ) → e < fuel → r < m → entry r ≡ Some e → e ≤ count entry e m * bound
  climbs zero r e h l p = absurd (omega arith)
  climbs (suc fuel) zero e h l p =
      let z : 0 ≡ e = same_entry (entry 0) 0 e ((rules 0 l).start refl) p in omega arith
  climbs (suc fuel) (suc r) e h l p =
      let s : ReachedBySome m others entry (suc r) e = (rules (suc r) l).reached e p (λ z. omega arith) in
      let g : ℕ = get_or others s.unit 0 in
      let least : ℕ = s.reached.least in
      let pos : 1 ≤ g = sizes s.unit s.among in
      let top : g ≤ bound = most s.unit s.among in
      let adds : least + g ≡ e = s.reached.adds in
      let under_least : least ≤ count entry least m * bound = climbs fuel s.reached.from least (omega arith) s.reached.below s.reached.present in
      let fewer : count entry least m < count entry e m = count_between entry least e m s.reached.from least s.reached.below s.reached.present (omega arith) (omega arith) in
      omega (arith, suc-mul (count entry least m) bound, mul-le (suc (count entry least m)) bound (count entry e m) bound fewer (omega arith))

  pub ceiling : (r e : ℕ) → r < m → entry r ≡ Some e → e ≤ (m - 1) * bound
  ceiling r e l p =
      let few : count entry e m < m = count_but entry e m r e l p (omega arith) in
      omega (arith, climbs (suc e) r e (omega arith) l p, mul-le (count entry e m) bound (m - 1) bound (omega arith) (omega arith))

-- the same of every true table, by the certificate
pub table_ceiling : (m : ℕ) (others : List ℕ) (entry : ℕ → Option ℕ) → 1 ≤ m → Table (m ∷ others) entry
    → ((j : ℕ) → j < length others → 1 ≤ get_or others j 0)
    → (bound : ℕ) → ((j : ℕ) → j < length others → get_or others j 0 ≤ bound)
    → (r e : ℕ) → r < m → entry r ≡ Some e → e ≤ (m - 1) * bound
table_ceiling m others entry some table sizes bound most =
    ceiling m others entry (complete m others entry some table) sizes bound most
