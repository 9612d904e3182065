use Rattle.il_units.specs.Units.{unit_text}
use Rattle.il_text.proofs.UnitWalk.{Walks}
use Rattle.il_text.proofs.units.unit_program.Given as goal

abbrev pub invariant-loop-unit : goal.invariant-loop-unit
invariant-loop-unit l = Walks l.text unit_text l.unit-items l.unit-index l.above.items l.last
