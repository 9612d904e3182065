use Rattle.std.proofs.Common.{◌≡◌, take, ap, arith}
use Rattle.std.proofs.lemmas.List.{length-take}
use Rattle.il_reader.specs.declared.place.Place.{Place}
use Rattle.il_reader.specs.Texts.{place_behind}
use Rattle.il_text.proofs.Places.{column_small_behind}
use Rattle.il_places.proofs.reaching.Reached.on_to.Goals as goal

pub place_behind-place-requires-clause-column : goal.place_behind-place-requires-clause-column
place_behind-place-requires-clause-column c =
    let before = take c.loop-i.i c.args.text.now in
    let same : c.loop-i.place.column ≡ (place_behind before).column = ap (λ (p : Place). p.column) c.loop-i.invariant in
    omega (arith, same, column_small_behind before, length-take c.loop-i.i c.args.text.now)
