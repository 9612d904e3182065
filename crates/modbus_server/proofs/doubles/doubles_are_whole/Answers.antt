use Rattle.modbus_server.proofs.DoubleLaws.{are_whole}
use Rattle.modbus_server.proofs.doubles.doubles_are_whole.Goals as goal

pub returns : goal.returns
returns c = are_whole
