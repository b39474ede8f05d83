-- One round after another, until every ring is closed.
use Rattle.std.proofs.Common.{◌≡◌, ℕ, ◌+◌, ◌*◌, ◌%◌, ◌<◌, ◌≤◌, Some, None, Option, sym, refl, ap, ◌∙◌, inl, inr, zero-mul, arith}
use Rattle.std.proofs.lemmas.Bool.{cases_eq}
use Rattle.tables.specs.Tables.{Within}
use Rattle.tables.proofs.Present.{not_both}
use Rattle.books.specs.Rings.{Grown, Common, Lowest, Round, Room, RingRoom}
use Rattle.tables.specs.Tests.{Leaves}
use Rattle.books.proofs.Mods.{class_at, class_add, ring_class}

-- The rings below s are closed, and the others are as they were.
pub record Rounds (m g d s : ℕ) (old cur : ℕ → Option ℕ) : Type 0 where
  pub leaves : Leaves m cur
  pub grown : (r e : ℕ) → cur r ≡ Some e → Grown m g old e
  pub lower : (r e : ℕ) → old r ≡ Some e → Within cur r e
  pub closed : (r e : ℕ) → r % d < s → cur r ≡ Some e → Within cur ((r + g) % m) (e + g)
  pub stays : (r : ℕ) → s ≤ r % d → cur r ≡ old r

-- an entry that is as it was
grown_none : (m g r e : ℕ) (old : ℕ → Option ℕ) → 1 ≤ m → old r ≡ Some e → Grown m g old e
grown_none m g r e old some p =
    record { from = r; least = e; times = 0; present = p; few = some; adds = omega (arith, zero-mul g) }

-- where a ring has no present entry, the round over it alters nothing
pub round_none : (m g d s : ℕ) (old : ℕ → Option ℕ) → 1 ≤ m → Leaves m old → Lowest m d s old None → Round m g d s old old
round_none m g d s old some leaves none =
    record {
      leaves = leaves;
      grown = λ r e p. grown_none m g r e old some p;
      lower = λ r e p. record { least = e; present = p; within = omega arith };
      closed = λ r e c p. absurd (not_both (old r) e p (none r c));
      stays = λ r c. refl;
    }

module _ (m g d s : ℕ) (old cur : ℕ → Option ℕ) (some : 1 ≤ m) (k : Common m g d) (w : Rounds m g d s old cur) where
  -- the entries of the next ring have room
  pub rounds_room : Room m g old → RingRoom m g d s cur
  rounds_room room = λ r e c p. room r e (sym (w.stays r (omega arith)) ∙ p)

  -- an entry is a load of its remainder's ring
  class_back : (r e : ℕ) (entry : ℕ → Option ℕ) → Leaves m entry → entry r ≡ Some e → e % d ≡ r % d
  class_back r e entry leaves p = sym (class_at m g d some k e) ∙ ap (λ (z : ℕ). z % d) (leaves r e p)

  -- the unit leads to the same ring
  class_next : (r : ℕ) → ((r + g) % m) % d ≡ r % d
  class_next r =
      ap (λ (z : ℕ). ((r + z) % m) % d) (let q : g ≡ 1 * g = omega arith in q) ∙ ring_class m g d some k r 1

  -- one round more
  pub rounds_more : (nu : ℕ → Option ℕ) → Round m g d s cur nu → Rounds m g d (s + 1) old nu
  rounds_more nu v =
      record {
        leaves = v.leaves;
        grown = λ r e p. elim (cases_eq (r % d) s) [
          | inl c ↦
              let u : Grown m g cur e = v.grown r e p in
              let same : u.from % d ≡ s =
              sym (class_back u.from u.least cur w.leaves u.present)
              ∙ sym (class_add m g d some k u.least u.times) ∙ ap (λ (z : ℕ). z % d) u.adds ∙ class_back r e nu v.leaves p ∙ c in
              record {
                from = u.from;
                least = u.least;
                times = u.times;
                present = sym (w.stays u.from (omega arith)) ∙ u.present;
                few = u.few;
                adds = u.adds;
              }
          | inr c ↦ w.grown r e (sym (v.stays r c) ∙ p)
        ];
        lower = λ r e p.
            let a : Within cur r e = w.lower r e p in
            let b : Within nu r a.least = v.lower r a.least a.present in
            record { least = b.least; present = b.present; within = omega (arith, a.within, b.within) };
        closed = λ r e l p. elim (cases_eq (r % d) s) [
          | inl c ↦ v.closed r e c p
          | inr c ↦
              let a : Within cur ((r + g) % m) (e + g) = w.closed r e (omega arith) (sym (v.stays r c) ∙ p) in
              record {
                least = a.least;
                present = v.stays ((r + g) % m) (λ q. c (sym (class_next r) ∙ q)) ∙ a.present;
                within = a.within;
              }
        ];
        stays = λ r l. v.stays r (λ q. omega arith) ∙ w.stays r (omega arith);
      }
