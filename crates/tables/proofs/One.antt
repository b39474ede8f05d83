-- A load has one list of numbers: the steps leave no choice.
use Rattle.std.proofs.Common.{◌≡◌, ℕ, ◌+◌, ◌-◌, ◌/◌, ◌%◌, ◌≤◌, List, get_or, set, sym, refl, ap, ◌∙◌, subst, inl, inr}
use Rattle.std.proofs.lemmas.Bool.{cases_order}
use Rattle.tables.specs.Made.{one_more, Followed, done, next, Numbers}
use Rattle.tables.specs.Rows.{base_of}
use Rattle.tables.specs.Steps.{Step}
use Rattle.tables.proofs.Back.{back_is}
use Rattle.tables.proofs.Leasts.{least_one}

step_one : (row : List ℕ) (r i j : ℕ) → Step row r i → Step row r j → i ≡ j
step_one row r i j a b =
    elim (cases_order i j) [
      | inl same ↦ same
      | inr apart ↦ elim apart [
        | inl less ↦ absurd (b.first i a.other less a.leads)
        | inr more ↦ absurd (a.first j b.other more b.leads)
      ]
    ]

module _ (row : List ℕ) (some : 1 ≤ base_of row) where
  pub followed_one : {r s : ℕ} {xs ys : List ℕ} → r ≡ s → Followed row r xs → Followed row s ys → xs ≡ ys
  followed_one e done done = refl
  followed_one e done (next s t j ys b low brings g) = absurd (b.nonzero (sym e))
  followed_one e (next r t i xs a low brings f) done = absurd (a.nonzero e)
  followed_one e (next r t i xs a low brings f) (next s u j ys b low' brings' g) =
      let same : i ≡ j = step_one row r i j a (subst (λ (k : ℕ). Step row k j) (sym e) b) in
      let leads : (u + get_or row i 0) % base_of row ≡ r = ap (λ k. (u + get_or row k 0) % base_of row) same ∙ brings' ∙ sym e in
      let left : t ≡ u = back_is (base_of row) (get_or row i 0) r t some low brings ∙ sym (back_is (base_of row) (get_or row i 0) r u some low' leads) in
      ap (λ zs. one_more zs i) (followed_one left f g) ∙ ap (one_more ys) same

  pub numbers_one : (load : ℕ) (xs ys : List ℕ) → Numbers row load xs → Numbers row load ys → xs ≡ ys
  numbers_one load xs ys a b =
      a.are
      ∙ ap (λ cs. set cs 0 ((load - a.least) / base_of row)) (followed_one refl a.followed b.followed)
      ∙ ap (λ e. set b.counts 0 ((load - e) / base_of row)) (least_one row (load % base_of row) a.least b.least a.is_least b.is_least)
      ∙ sym b.are
