use Rattle.il_text.proofs.UnitTold.{typing_told}
use Rattle.il_text.proofs.units.untyped.Goals as goal

pub returns-in-Fault : goal.returns-in-Fault
returns-in-Fault c = λ P plain told. typing_told c.args.units.now.text c.args.flat.now P c.args.error c.in-Fault.fault c.in-Fault.instruction c.place-place.result c.instruction_origin.result c.number.result c.in-Fault.is c.number.ensures c.instruction_origin.ensures c.place-place.ensures plain told
