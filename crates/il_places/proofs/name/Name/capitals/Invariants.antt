use Rattle.std.proofs.Common.{◌≡◌, take}
use Rattle.il_units.specs.Words.{capitals}
use Rattle.il_places.proofs.name.Name.capitals.Given as goal

abbrev pub invariant-loop-b : goal.invariant-loop-b
invariant-loop-b l = l.bytes.items ≡ capitals (take l.b-index l.text)
