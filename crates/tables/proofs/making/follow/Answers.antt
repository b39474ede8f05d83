use Rattle.std.proofs.Common.{◌≡◌, ℕ, ◌-◌, ◌%◌, get_or, replicate, is_some, Some, sym, ap, ◌∙◌, subst, arith}
use Rattle.std.proofs.lemmas.Option.{slice_get-get_or}
use Rattle.tables.specs.Made.{Followed, one_more}
use Rattle.tables.specs.Rows.{base_of}
use Rattle.tables.proofs.Firsts.{EntryStep}
use Rattle.tables.proofs.Follows.{Following, following_none, following_more, following_all, Ended, Left, left_by, size_told, step_told, none_told}
use Rattle.tables.proofs.making.follow.Given as given
use Rattle.tables.proofs.making.follow.Goals as goal

module _ (g : given.Over) (c : goal.After-from-rest g) where
  -- the step that the turn takes
  step_here : EntryStep (g.S.Showing.row c.args.source.now) (g.S.Entries.entry c.args.source.now) (c.loop-position.rest % base_of (g.S.Showing.row c.args.source.now)) c.in-Some.position
  step_here = step_told c.loop-position.rest c.requires.ordered c.requires.table c.base-base.ensures c.requires.based c.in-Some.ensures

  left_here : Left (g.S.Showing.row c.args.source.now) (g.S.Entries.entry c.args.source.now) c.loop-position.rest c.in-Some.position
  left_here =
      left_by (g.S.Showing.row c.args.source.now) (g.S.Entries.entry c.args.source.now) c.requires.ordered c.requires.table
      c.loop-position.rest c.in-Some.position c.loop-position.invariant.present step_here

  size_here : c.from-rest.result ≡ get_or (g.S.Showing.row c.args.source.now) c.in-Some.position 0
  size_here =
      c.from-rest.ensures
      ∙ size_told (g.S.Showing.row c.args.source.now) c.in-Some.position c.unwrap.result c.size.result step_here.inside c.size.ensures c.unwrap.ensures

pub loop-position-init : goal.loop-position-init
loop-position-init g c =
    let s = c.args.source.now in
    following_none (g.S.Showing.row s) (g.S.Entries.entry s) c.requires.ordered c.requires.table c.args.entry c.fill.new.self
    (c.fill.ensures.after (λ y e. e) ∙ ap (λ (n : ℕ). replicate n 0) c.requires.places)
    (subst (λ (m : ℕ). g.S.Entries.entry s (c.args.entry % m) ≡ Some c.args.entry) (sym c.requires.based) c.requires.present)

pub offset_bounds-counts-position : goal.offset_bounds-counts-position
offset_bounds-counts-position g c =
    omega (arith, (step_told c.loop-position.rest c.requires.ordered c.requires.table c.base-base.ensures c.requires.based c.in-Some.ensures).inside)

pub bounds-counts-position : goal.bounds-counts-position
bounds-counts-position g c =
    omega (arith, (step_told c.loop-position.rest c.requires.ordered c.requires.table c.base-base.ensures c.requires.based c.in-Some.ensures).inside)

pub bounds-counts-position-in-Some : goal.bounds-counts-position-in-Some
bounds-counts-position-in-Some g c =
    omega (arith, (step_told c.loop-position.rest c.requires.ordered c.requires.table c.base-base.ensures c.requires.based c.in-Some.ensures).inside)

pub unwrap-requires : goal.unwrap-requires
unwrap-requires g c =
    ap is_some (c.size.ensures ∙ slice_get-get_or (g.S.Showing.row c.args.source.now) c.in-Some.position 0
    (step_told c.loop-position.rest c.requires.ordered c.requires.table c.base-base.ensures c.requires.based c.in-Some.ensures).inside)

pub overflow_sub-rest : goal.overflow_sub-rest
overflow_sub-rest g c = omega (arith, size_here g c, (left_here g c).size)

pub loop-position-smaller : goal.loop-position-smaller
loop-position-smaller g c = omega (arith, size_here g c, (left_here g c).fits)

pub loop-position-preserved : goal.loop-position-preserved
loop-position-preserved g c =
    let s = c.args.source.now in
    subst
    (λ (size : ℕ). Following (g.S.Showing.row s) (g.S.Entries.entry s) c.args.entry (one_more c.loop-position.counts c.in-Some.position) (c.loop-position.rest - size))
    (sym (size_here g c))
    (following_more (g.S.Showing.row s) (g.S.Entries.entry s) c.requires.ordered c.requires.table c.args.entry c.loop-position.counts c.loop-position.rest c.in-Some.position c.loop-position.invariant (step_here g c))

pub returns : goal.returns
returns g c =
    let s = c.args.source.now in
    let e : Ended (g.S.Showing.row s) c.args.entry c.loop-position.counts =
    following_all (g.S.Showing.row s) (g.S.Entries.entry s) c.requires.ordered c.requires.table c.args.entry c.loop-position.counts c.loop-position.rest c.loop-position.invariant
    (none_told c.loop-position.rest c.requires.ordered c.requires.table c.base-base.ensures c.requires.based c.in_default.ensures) in
    record {
      followed = subst (λ (b : ℕ). Followed (g.S.Showing.row s) (c.args.entry % b) c.loop-position.counts) c.requires.based e.followed;
      adds = e.adds;
      first = e.first;
    }
