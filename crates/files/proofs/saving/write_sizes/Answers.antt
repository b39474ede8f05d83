use Rattle.std.proofs.Common.{◌≡◌, ℕ, ◌+◌, ◌*◌, List, ◌++◌, get_or, take, drop, sym, refl, ap, ◌∙◌, subst, arith, length-drop}
use Rattle.std.proofs.lemmas.List.{get_or-drop}
use Rattle.tables.proofs.Follows.{size_told}
use Rattle.files.specs.Fields.{be16}
use Rattle.files.proofs.Fronts.{part_more}
use Rattle.files.proofs.saving.write_sizes.Goals as goal

pub loop-place-preserved : goal.loop-place-preserved
loop-place-preserved g c =
    let row : List ℕ = g.S.Showing.row c.args.source.now in
    let i : ℕ = c.loop-place.place in
    let next : i + 1 ≡ 1 + i = omega arith in
    let told : c.unwrap-size.result ≡ get_or (drop 1 row) i 0 =
    size_told row (i + 1) c.unwrap-size.result c.size.result (omega arith) c.size.ensures c.unwrap-size.ensures
    ∙ ap (λ (k : ℕ). get_or row k 0) next ∙ sym (get_or-drop 1 row i 0) in
    part_more be16 2 (λ x. refl) (drop 1 row) 0 c.args.out.now c.loop-place.out _ 8 i
    (omega (arith, length-drop 1 row)) (omega arith) c.loop-place.invariant
    (subst (λ (bytes : List ℕ). c.write.new.out ≡ take (8 + 2 * i) c.loop-place.out ++ bytes ++ drop (8 + 2 * i + 2) c.loop-place.out) (c.to_be_bytes.ensures ∙ ap be16 told) c.write.ensures)
