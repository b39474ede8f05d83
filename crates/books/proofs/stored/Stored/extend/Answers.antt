use Rattle.std.proofs.Common.{◌≡◌, ℕ, ◌+◌, ◌%◌, Some, vec_items, vec_len, refl, sym, subst, ◌∙◌}
use Rattle.tables.specs.Tables.{entry_of}
use Rattle.books.specs.Rings.{Common, Lowest, RoomFor, Round}
use Rattle.books.specs.declared.stored.Stored.{Stored}
use Rattle.books.proofs.Mods.{class_at}
use Rattle.books.proofs.Rounds.{Rounds, round_none, rounds_room, rounds_more}
use Rattle.books.proofs.stored.Stored.extend.Goals.{in-Some, in_default}
use Rattle.books.proofs.stored.Stored.extend.Goals as goal

pub walk-requires : goal.walk-requires
walk-requires c =
    let old = c.args.self.now in
    let stored = c.loop-start.self in
    let m = vec_len stored.entries in
    let low : ℕ = c.in-Some.low in
    let h : Lowest m c.common_divisor-stride.result c.loop-start.start (entry_of (vec_items stored.entries)) (Some low) = c.in-Some.ensures in
    let both : Common (vec_len old.entries) c.args.unit c.common_divisor-stride.result = subst (λ (n : ℕ). Common n c.args.unit c.common_divisor-stride.result) c.base.ensures c.common_divisor-stride.ensures in
    let common : Common m c.args.unit c.common_divisor-stride.result = subst (λ (n : ℕ). Common n c.args.unit c.common_divisor-stride.result) (sym c.loop-start.invariant.0) both in
    record {
      common = common;
      lowest = (h.0, refl, λ r e s p. h.2 r e (s ∙ h.1) p);
      room =
          subst (λ (n : ℕ). RoomFor n c.args.unit low) (sym c.loop-start.invariant.0)
          (rounds_room (vec_len old.entries) c.args.unit c.common_divisor-stride.result c.loop-start.start
          (entry_of (vec_items old.entries)) (entry_of (vec_items stored.entries)) old.some both c.loop-start.invariant.1 c.requires
          (low % m) low (class_at m c.args.unit c.common_divisor-stride.result stored.some common low ∙ h.1) h.0);
    }

pub loop-start-preserved : goal.loop-start-preserved
loop-start-preserved c =
    let old = c.args.self.now in
    let stored = c.loop-start.self in
    let d : ℕ = c.common_divisor-stride.result in
    let entry = entry_of (vec_items stored.entries) in
    let invariant = c.loop-start.invariant in
    let more : (now : Stored) → vec_len now.entries ≡ vec_len stored.entries
    → Round (vec_len stored.entries) c.args.unit d c.loop-start.start entry (entry_of (vec_items now.entries))
    → (vec_len now.entries ≡ vec_len old.entries) × Rounds (vec_len old.entries) c.args.unit d (c.loop-start.start + 1) (entry_of (vec_items old.entries)) (entry_of (vec_items now.entries))
    = λ now long round. (
      long ∙ invariant.0,
      rounds_more (vec_len old.entries) c.args.unit d c.loop-start.start (entry_of (vec_items old.entries)) entry old.some
          (subst (λ (m : ℕ). Common m c.args.unit d) c.base.ensures c.common_divisor-stride.ensures) invariant.1 (entry_of (vec_items now.entries))
          (subst (λ (m : ℕ). Round m c.args.unit d c.loop-start.start entry (entry_of (vec_items now.entries))) invariant.0 round),
    ) in
    elim c.match-lowest.branch [
      | in-Some w ↦
          rw w.self-is
          (more w.walk.new.self w.walk.ensures.len
          (subst (λ (s : ℕ). Round (vec_len stored.entries) c.args.unit d s entry (entry_of (vec_items w.walk.new.self.entries))) w.in-Some.ensures.1 w.walk.ensures.round))
      | in_default w ↦
          rw w.self-is
          (more stored refl
          (round_none (vec_len stored.entries) c.args.unit d c.loop-start.start entry stored.some stored.leaves w.in_default.ensures))
    ]
