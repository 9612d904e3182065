use Rattle.modbus_wire.proofs.ReplyLaws.{replies_back}
use Rattle.modbus_wire.proofs.reply.replies_are_read_back.Goals as goal

pub returns : goal.returns
returns c = replies_back
