-- The entries of a file as a table source has them. These are proofs that a view's sentences as a source cite, which may stand on specs alone.
use Rattle.std.specs.Prelude.{◌≡◌, ℕ, ◌+◌, ◌-◌, ◌*◌, ◌<◌, ◌≤◌, Bool, true, false, List, Some, None, Option, ◌==◌, ◌≢◌, nat_lt}
use Rattle.std.proofs.Common.{sym, ap, ◌∙◌, inl, inr, arith}
use Rattle.std.proofs.lemmas.Bool.{cases_lt, lt-ltb, le-ltb, cond-true, cond-false, eqb-true, false≢true}
use Rattle.files.specs.Fields.{at32}
use Rattle.files.specs.Layout.{entry_value, file_base, file_entry, file_units}

same_some : (o : Option ℕ) (a b : ℕ) → o ≡ Some a → o ≡ Some b → a ≡ b
same_some o a b p q = cc

not_both : (o : Option ℕ) (a : ℕ) → o ≡ Some a → o ≢ None
not_both o a p q = let z : ◌≡◌ {A = ℕ} 0 1 = cc in omega arith

-- Whether an entry is present and 0, as a test.
abbrev pub is_zero : Option ℕ → Bool
is_zero None = false
is_zero (Some e) = e == 0

pub zero_is : (o : Option ℕ) → is_zero o ≡ true → o ≡ Some 0
zero_is None t = absurd (false≢true t)
zero_is (Some e) t = ap Some (eqb-true e 0 t)

value_fits : (n e : ℕ) → entry_value n ≡ Some e → e ≤ 4294967294
value_fits n e p =
    elim (cases_lt n 4294967295) [
      | inl h ↦ let same : n ≡ e = same_some (entry_value n) n e (cond-true (nat_lt n 4294967295) (Some n) None (lt-ltb n 4294967295 h)) p in omega arith
      | inr h ↦ absurd (not_both (entry_value n) e p (cond-false (nat_lt n 4294967295) (Some n) None (le-ltb n 4294967295 h)))
    ]

module _ (bytes : List ℕ) where
  abbrev read : ℕ → Option ℕ
  read r = entry_value (at32 bytes (8 + 2 * (file_units bytes - 1) + 4 * r))

  pub entry_past : (r : ℕ) → file_base bytes ≤ r → file_entry bytes r ≡ None
  entry_past r h = cond-false (nat_lt r (file_base bytes)) (read r) None (le-ltb r (file_base bytes) h)

  pub entry_here : (r : ℕ) → r < file_base bytes → file_entry bytes r ≡ entry_value (at32 bytes (8 + 2 * (file_units bytes - 1) + 4 * r))
  entry_here r h = cond-true (nat_lt r (file_base bytes)) (read r) None (lt-ltb r (file_base bytes) h)

  pub entry_fits : (r e : ℕ) → file_entry bytes r ≡ Some e → e ≤ 4294967294
  entry_fits r e p =
      elim (cases_lt r (file_base bytes)) [
        | inl h ↦ value_fits (at32 bytes (8 + 2 * (file_units bytes - 1) + 4 * r)) e (sym (entry_here r h) ∙ p)
        | inr h ↦ absurd (not_both (file_entry bytes r) e p (entry_past r h))
      ]
