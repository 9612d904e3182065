use Rattle.il_text.proofs.UnitTold.{misuse_told}
use Rattle.il_text.proofs.units.misused.Goals as goal

pub returns-in-Fault : goal.returns-in-Fault
returns-in-Fault c = λ above unit told. misuse_told c.args.units.now.text above unit c.args.error c.in-Fault.fault c.place-place.result c.number.result c.in-Fault.is c.number.ensures c.place-place.ensures told
