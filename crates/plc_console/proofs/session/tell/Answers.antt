use Rattle.plc_console.proofs.Sessions.{untold}
use Rattle.plc_console.proofs.session.tell.Goals as goal

pub returns-in-Ok-clause-told : goal.returns-in-Ok-clause-told
returns-in-Ok-clause-told g c = (c.as_slice.result.now, c.put_text.ensures.wrote)

pub returns-in-Err-clause-told : goal.returns-in-Err-clause-told
returns-in-Err-clause-told g c = untold (Unit {0}) (g.W.CountedWrite.held c.args.writer.now)
