use Rattle.std.proofs.Common.{◌≡◌, ◌∙◌, arith}
use Rattle.tables.proofs.Present.{same_entry}
use Rattle.control.proofs.packing.pack.Goals as goal

pub returns : goal.returns
returns c =
    let short = c.requires in
    let number : c.unwrap.result ≡ short.number = same_entry c.number.result c.unwrap.result short.number c.unwrap.ensures (c.number.ensures ∙ short.numbered) in
    let place : c.unwrap-place.result ≡ short.place = same_entry c.place.result c.unwrap-place.result short.place c.unwrap-place.ensures (c.place.ensures ∙ short.placed) in
    record { short = short; packs = omega (arith, number, place, c.from-number.ensures) }
