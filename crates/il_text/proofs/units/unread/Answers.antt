use Rattle.il_text.proofs.UnitTold.{read_told}
use Rattle.il_text.proofs.units.unread.Goals as goal

pub returns-in-Fault : goal.returns-in-Fault
returns-in-Fault c = λ u is told. read_told c.args.units.now.text u c.args.error c.in-Fault.fault c.origin-place.result c.number.result c.in-Fault.is c.number.ensures (λ n le lies. c.origin-place.ensures u n is le lies) told
