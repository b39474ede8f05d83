use Rattle.std.proofs.Common.{◌+◌, ◌-◌, ◌<◌, length, get_or, sym, refl, ◌∙◌, arith}
use Rattle.waiting.specs.Lists.{room, waits}
use Rattle.books.specs.declared.rebuild.candidates.Candidate.{Candidate}
use Rattle.books.specs.Pointers.{sizes_of}
use Rattle.books.proofs.Pointed.{place_at, size_at, size_units}
use Rattle.books.proofs.Puts.{put_fits, put_lands}
use Rattle.books.proofs.Served.{refill_put, refill_room, refill_skip}
use Rattle.books.proofs.rebuild.merges.refill.Goals as goal
use Rattle.books.proofs.rebuild.merges.refill.Goals.{then-pointer-newest, else-pointer-newest}

pub unwrap-requires : goal.unwrap-requires
unwrap-requires c =
    put_fits _ _ _ _ _
    (omega (
      arith,
      c.requires.places,
      c.loop-position.invariant.0,
      size_units c.args.pointers.now,
      refill_room _ _ _ _ _ _ c.loop-position.invariant.1 (omega (arith, c.loop-position-test.true, size_units c.args.pointers.now)) (place_at c.args.pointers.now c.loop-position.position ∙ c.if-pointer-newest.true),
    ))
    c.put.ensures.value

pub loop-position-preserved : goal.loop-position-preserved
loop-position-preserved c =
    let inside : c.loop-position.position < length (sizes_of c.args.pointers.now) = omega (arith, c.loop-position-test.true, size_units c.args.pointers.now) in
    elim c.if-pointer-newest.branch [
      | then-pointer-newest w ↦
          let free : length (waits c.loop-position.waiting) < room c.loop-position.waiting
          = omega (
            arith,
            c.requires.places,
            c.loop-position.invariant.0,
            size_units c.args.pointers.now,
            refill_room _ _ _ _ _ _ c.loop-position.invariant.1 inside (place_at c.args.pointers.now c.loop-position.position ∙ w.if-pointer-newest.true),
          ) in
          let x : Candidate = record { load = get_or c.args.loads.now (length c.args.loads.now - 1) 0 + w.from.result; position = c.loop-position.position } in
          rw w.waiting-is (
            w.put.ensures.size ∙ c.loop-position.invariant.0,
            refill_put _ _ _ _ _ _ c.loop-position.invariant.1 x _ (put_lands _ _ _ _ w.put.result free w.put.ensures.value) inside (place_at c.args.pointers.now c.loop-position.position ∙ w.if-pointer-newest.true) refl
                (omega (arith, w.from.ensures, size_at c.args.pointers.now c.loop-position.position)),
          )
      | else-pointer-newest w ↦ rw w.waiting-is (c.loop-position.invariant.0, refill_skip _ _ _ _ _ _ c.loop-position.invariant.1 (λ e. w.if-pointer-newest.false (sym (place_at c.args.pointers.now c.loop-position.position) ∙ e)))
    ]
