use Rattle.il_text.proofs.UnitTold.{declaration_told}
use Rattle.il_text.proofs.units.undeclared.Goals as goal

pub returns-in-Fault : goal.returns-in-Fault
returns-in-Fault c = λ u s is read told. declaration_told c.args.units.now.text u s c.args.error c.in-Fault.fault c.origin-place.result c.number.result c.in-Fault.is c.number.ensures (λ n le lies. c.origin-place.ensures u n is le lies) read told
