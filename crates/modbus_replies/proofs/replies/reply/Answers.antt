use Rattle.modbus_replies.proofs.Settling.{untouched}
use Rattle.modbus_replies.proofs.replies.reply.Goals as goal

pub returns-in-Err : goal.returns-in-Err
returns-in-Err g c = rw (← c.in-Err.ensures.is) (rw (← c.exception_reply.ensures) (untouched (g.S.Staging.told c.args.staging.now) c.exception_reply.result.items))
