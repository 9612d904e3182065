use Rattle.modbus_wire.proofs.RequestLaws.{read_back}
use Rattle.modbus_wire.proofs.request.requests_are_read_back.Goals as goal

pub returns : goal.returns
returns c = read_back
