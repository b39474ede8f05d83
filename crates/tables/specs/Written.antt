-- Tables that are written out: a list of the entries at each remainder below the base.
use Rattle.std.specs.Prelude.{◌≡◌, ℕ, zero, suc, ◌+◌, ◌%◌, ◌≤◌, Bool, true, false, ◌&&◌, List, [], ◌∷◌, length, Some, None, Option, ◌==◌, nat_le, refl}
use Rattle.std.proofs.Common.{ap, subst, arith}
use Rattle.std.proofs.lemmas.List.{get_or_past}
use Rattle.std.proofs.lemmas.Bool.{and_parts, both_ways, eqb-true, leb-true}
use Rattle.tables.specs.Tables.{Lawful, entry_of}

-- Whether an entry can stand at r by the base m.
abbrev pub stands : ℕ → ℕ → Option ℕ → Bool
stands m r None = true
stands m r (Some e) = e % m == r && nat_le e 4294967294

-- Whether each entry of a list can stand where it does, the first of them at r.
abbrev pub stand_from : ℕ → ℕ → List (Option ℕ) → Bool
stand_from m r [] = true
stand_from m r (entry ∷ entries) = stands m r entry && stand_from m (r + 1) entries

-- Whether a list of entries begins with 0.
abbrev pub starts : List (Option ℕ) → Bool
starts [] = false
starts (None ∷ entries) = false
starts (Some e ∷ entries) = e == 0

-- Whether a list of entries is a table. It computes, so that `refl` shows it of entries that are written out.
abbrev pub tabular : List (Option ℕ) → Bool
tabular entries = starts entries && nat_le (length entries) 4096 && stand_from (length entries) 0 entries

none_some : (e : ℕ) → ◌≡◌ {A = Option ℕ} None (Some e) → ⊥
none_some e h = let z : ◌≡◌ {A = ℕ} 0 1 = cc in omega arith

stands_is : (m r e : ℕ) → stands m r (Some e) ≡ true → (e % m ≡ r) × (e ≤ 4294967294)
stands_is m r e t =
    let p = and_parts (e % m == r) (nat_le e 4294967294) t in (eqb-true (e % m) r p.0, leb-true e 4294967294 p.1)

stand_from_is : (m k : ℕ) (entries : List (Option ℕ)) → stand_from m k entries ≡ true → (r e : ℕ) → entry_of entries r ≡ Some e → (e % m ≡ k + r) × (e ≤ 4294967294)
stand_from_is m k [] t r e h = absurd (none_some e h)
stand_from_is m k (entry ∷ entries) t zero e h =
    let p = stands_is m k e (subst (λ o. stands m k o ≡ true) h (and_parts (stands m k entry) (stand_from m (k + 1) entries) t).0) in
    (omega (arith, p.0), p.1)
stand_from_is m k (entry ∷ entries) t (suc r) e h =
    let p = stand_from_is m (k + 1) entries (and_parts (stands m k entry) (stand_from m (k + 1) entries) t).1 r e h in
    (omega (arith, p.0), p.1)

starts_is : (entries : List (Option ℕ)) → starts entries ≡ true → (1 ≤ length entries) × (entry_of entries 0 ≡ Some 0)
starts_is [] t = absurd (both_ways false refl t)
starts_is (None ∷ entries) t = absurd (both_ways false refl t)
starts_is (Some e ∷ entries) t = (omega arith, ap Some (eqb-true e 0 t))

-- A list that is a table keeps the sentences of a source.
pub written_lawful : (entries : List (Option ℕ)) → tabular entries ≡ true → Lawful (length entries) (entry_of entries)
written_lawful entries t =
    let p = and_parts (starts entries && nat_le (length entries) 4096) (stand_from (length entries) 0 entries) t in
    let q = and_parts (starts entries) (nat_le (length entries) 4096) p.0 in
    record {
      low = (starts_is entries q.0).0;
      high = leb-true (length entries) 4096 q.1;
      zero = (starts_is entries q.0).1;
      past = λ r h. get_or_past entries r None h;
      leaves = λ r e h. (omega (arith, (stand_from_is (length entries) 0 entries p.1 r e h).0));
      fits = λ r e h. (stand_from_is (length entries) 0 entries p.1 r e h).1;
    }
