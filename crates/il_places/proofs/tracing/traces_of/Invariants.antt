use Rattle.std.proofs.Common.{◌≡◌, [], map, drop}
use Rattle.il_units.specs.Units.{unit_text}
use Rattle.il_places.specs.Origins.{traces_from}
use Rattle.il_places.proofs.tracing.traces_of.Given as goal

abbrev pub invariant-loop-unit : goal.invariant-loop-unit
invariant-loop-unit l = traces_from l.units.text l.above.items l.traces.items (map unit_text (drop l.unit-index l.unit-items)) ≡ traces_from l.units.text [] [] (map unit_text l.unit-items)
