use Rattle.il_text.proofs.Imaged.{is_settled, not_refused}
use Rattle.il_text.proofs.imaging.loaded.Goals as goal

pub unreachable-requires : goal.unreachable-requires
unreachable-requires c = not_refused c.args.program.now c.in-Err-Fault.field-0 c.in-Err-Fault.field-0-0 c.args.bytes.now c.in-Err-Fault.field-0-is c.requires.declared c.requires.spelled c.in-Err-Fault.ensures.only

pub returns-in-Ok-clause-settled : goal.returns-in-Ok-clause-settled
returns-in-Ok-clause-settled c = is_settled c.args.program.now c.in-Ok.image c.args.bytes.now c.requires.declared c.requires.spelled c.in-Ok.ensures.only
