use Rattle.il_units.specs.Units.{unit_text}
use Rattle.il_text.proofs.UnitTold.{good_unit}
use Rattle.il_text.proofs.units.unit_checked.Goals as goal

pub returns-clause-good : goal.returns-clause-good
returns-clause-good c =
    good_unit c.args.units.now.text c.text.result.now c.args.above.now (unit_text c.args.unit.now) c.in-Ok.flat c.in_ok-program.program c.text.ensures c.in-Ok.ensures.told c.in-Ok.ensures.flat c.in_ok-program.ensures.found c.in_ok-program.ensures.typed
