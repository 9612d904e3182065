use Rattle.il_text.proofs.UnitTold.{is_from}
use Rattle.il_text.proofs.units.origin.Goals as goal

pub returns : goal.returns
returns c = λ u n is le lies. is_from c.args.units.now.text u c.args.expansion.now c.text.result.now c.args.place c.place.result c.offset_of.result c.origin.result n is c.text.ensures c.offset_of.ensures.short c.offset_of.ensures.found c.origin.ensures c.place.ensures le lies
