-- Which refusal the row and the argument give.
use Rattle.std.proofs.Common.{◌≡◌, ℕ, suc, ◌<◌, ◌≤◌, true, false, List, ◌∷◌, length, Some, None, sym, arith}
use Rattle.std.proofs.lemmas.Bool.{le-leb, lt-leb, lt-ltb, le-ltb, eq-eqb, ne_eqb}
use Rattle.tables.specs.declared.refusals.Refusal.TheVariants.{AlreadyAdmitted, RowFull, NotAdmitted, IsBase, NoRoom}
use Rattle.books.specs.Units.{has}
use Rattle.books.specs.Calls.{admit_refusal, withdraw_refusal}

module _ (base : ℕ) (xs : List ℕ) (g : ℕ) (apart : base ≡ g → ⊥) where
  pub admit_there : 1 ≤ g → g ≤ 65535 → has g xs ≡ true → admit_refusal (base ∷ xs) g ≡ Some (AlreadyAdmitted g)
  admit_there l h t = simp (le-leb 1 g l, le-leb g 65535 h, ne_eqb base g apart, t)

  pub admit_full : 1 ≤ g → g ≤ 65535 → has g xs ≡ false → 15 ≤ length xs → admit_refusal (base ∷ xs) g ≡ Some RowFull
  admit_full l h t n = simp (le-leb 1 g l, le-leb g 65535 h, ne_eqb base g apart, t, le-ltb (suc (length xs)) 16 (omega arith))

  pub admit_fits : 1 ≤ g → g ≤ 65535 → has g xs ≡ false → length xs < 15 → admit_refusal (base ∷ xs) g ≡ None
  admit_fits l h t n = simp (le-leb 1 g l, le-leb g 65535 h, ne_eqb base g apart, t, lt-ltb (suc (length xs)) 16 (omega arith))

module _ (base : ℕ) (xs : List ℕ) (g room : ℕ) where
  pub withdraw_short : room < base → withdraw_refusal (base ∷ xs) g room ≡ Some (NoRoom base)
  withdraw_short h = simp (lt-leb base room h)

  pub withdraw_base : base ≤ room → g ≡ base → withdraw_refusal (base ∷ xs) g room ≡ Some (IsBase g)
  withdraw_base h e = simp (le-leb base room h, eq-eqb g base e)

  module _ (long : base ≤ room) (apart : g ≡ base → ⊥) where
    pub withdraw_absent : has g xs ≡ false → withdraw_refusal (base ∷ xs) g room ≡ Some (NotAdmitted g)
    withdraw_absent t = simp (le-leb base room long, ne_eqb g base apart, ne_eqb base g (λ e. apart (sym e)), t)

    pub withdraw_fits : has g xs ≡ true → withdraw_refusal (base ∷ xs) g room ≡ None
    withdraw_fits t = simp (le-leb base room long, ne_eqb g base apart, ne_eqb base g (λ e. apart (sym e)), t)

  -- what a withdrawal is refused for is the same on any strip that is long enough
  pub withdraw_room : (more : ℕ) → base ≤ room → base ≤ more → withdraw_refusal (base ∷ xs) g room ≡ withdraw_refusal (base ∷ xs) g more
  withdraw_room more h l = simp (le-leb base room h, le-leb base more l)
