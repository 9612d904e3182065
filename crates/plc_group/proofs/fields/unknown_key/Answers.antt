use Rattle.std.proofs.Common.{Some, None, ap, ◌∙◌}
use Rattle.plc_group.proofs.Tables.{found_key}
use Rattle.plc_group.proofs.fields.unknown_key.Goals as goal

pub returns-in-Some : goal.returns-in-Some
returns-in-Some c = ap Some c.as_str.ensures.value ∙ found_key c.args.table.now c.args.known.now (Some c.in-Some.word.now) c.in-Some.ensures

pub returns-in-None : goal.returns-in-None
returns-in-None c = found_key c.args.table.now c.args.known.now None c.in-None.ensures
