use Rattle.io_model.proofs.Streams.{one_stream}
use Rattle.modbus_wire.specs.Frames.{adus}
use Rattle.modbus_wire.proofs.Units.{readable}
use Rattle.modbus_wire.proofs.session.know_any_pieces.Goals as goal

pub returns : goal.returns
returns c = one_stream adus readable
