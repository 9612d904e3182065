use Rattle.std.proofs.Common.{◌≡◌, ◌<◌, take, length, refl, ap, arith}
use Rattle.std.proofs.lemmas.List.{length-take}
use Rattle.il_reader.specs.declared.place.Place.{Place}
use Rattle.il_reader.specs.Texts.{column_behind, place_behind}
use Rattle.il_text.proofs.Places.{column_small_behind}
use Rattle.il_text.proofs.units.offset_of.Goals as goal

pub loop-i-init : goal.loop-i-init
unfolding column_behind
loop-i-init c = record { here = refl; before = λ k lt is. absurd (omega (arith, lt)) }

pub place_behind-here-requires-clause-column : goal.place_behind-here-requires-clause-column
place_behind-here-requires-clause-column c =
    let before = take c.loop-i.i c.args.text.now in
    let same : c.loop-i.here.column ≡ (place_behind before).column = ap (λ (p : Place). p.column) c.loop-i.invariant.here in
    omega (arith, same, column_small_behind before, length-take c.loop-i.i c.args.text.now)
