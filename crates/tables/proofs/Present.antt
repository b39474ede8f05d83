-- What the entry of a remainder says about the loads that leave it.
use Rattle.std.proofs.Common.{◌≡◌, ℕ, ◌+◌, ◌*◌, ◌/◌, ◌%◌, ◌<◌, ◌≤◌, ◌⊎◌, Some, None, Option, sym, refl, ap, ◌∙◌, inl, inr, mul-le-mul_right, mod-eq_of_lt, mul-le-mul_left, mul-add, arith}
use native.Mathlib.Nat.{div-add-mod, add-mul-mod_self_left}
use Rattle.std.proofs.lemmas.Bool.{cases_lt}
use Rattle.tables.specs.declared.refusals.Refusal.{Refusal}
use Rattle.tables.specs.declared.refusals.Refusal.TheVariants.{Endless}
use Rattle.tables.specs.Missing.{MissingAbove, Unending}
use Rattle.tables.specs.Tables.{Lawful, Within, Contains}

pub entry_cases : (o : Option ℕ) → (o ≡ None) ⊎ ((e : ℕ) × (o ≡ Some e))
entry_cases None = inl refl
entry_cases (Some e) = inr (e, refl)

-- an entry is one thing
pub same_entry : (o : Option ℕ) (a b : ℕ) → o ≡ Some a → o ≡ Some b → a ≡ b
same_entry o a b p q = cc

pub not_both : (o : Option ℕ) (a : ℕ) → o ≡ Some a → o ≡ None → ⊥
not_both o a p q = let z : ◌≡◌ {A = ℕ} 0 1 = cc in omega arith

-- of two loads of one remainder the greater is a whole base above the other
pub base_apart : (m a b : ℕ) → a % m ≡ b % m → a < b → a + m ≤ b
base_apart m a b same less =
    let p : m * (a / m) + a % m ≡ a = div-add-mod a m in
    let q : m * (b / m) + b % m ≡ b = div-add-mod b m in
    elim (cases_lt (a / m) (b / m)) [
      | inl h ↦ (let k : m * (a / m + 1) ≤ m * (b / m) = mul-le-mul_left m (omega arith) in omega (arith, mul-add m (a / m) 1))
      | inr h ↦ absurd (let k : m * (b / m) ≤ m * (a / m) = mul-le-mul_left m h in omega arith)
    ]

-- with an absent entry, the loads of that remainder are missing, however far
pub missing_above : (m : ℕ) (entry : ℕ → Option ℕ) (r : ℕ) → 1 ≤ m → r < m → entry r ≡ None → (n : ℕ) → MissingAbove (Contains m entry) n
missing_above m entry r some low absent n =
    let leaves : (r + m * (n + 1)) % m ≡ r = add-mul-mod_self_left r m (n + 1) ∙ mod-eq_of_lt low in
    record {
      load = r + m * (n + 1);
      above = (let k : 1 * (n + 1) ≤ m * (n + 1) = mul_le_right 1 m (n + 1) some in omega arith);
      missing = λ c. not_both (entry r) c.least (ap entry (sym leaves) ∙ c.present) absent;
    }
  where
    mul_le_right : (a b c : ℕ) → a ≤ b → a * c ≤ b * c
    mul_le_right a b c h = mul-le-mul_right c h

-- the refusal where an entry is absent and all before it are present
pub unending : (m : ℕ) (entry : ℕ → Option ℕ) (r top : ℕ) (reason : Refusal) → Lawful m entry → ((k : ℕ) → k < r → Within entry k top) → r < m → (reason ≡ Endless r) × (entry r ≡ None) → Unending m entry reason
unending m entry r top reason lawful before low refused =
    record {
      remainder = r;
      named = refused.0;
      first = record {
        below = low;
        absent = refused.1;
        before = λ k l none. (let w : Within entry k top = before k l in not_both (entry k) w.least w.present none);
      };
      more = missing_above m entry r lawful.low low refused.1;
    }
