use Rattle.modbus_server.proofs.ValueLaws.{all_served}
use Rattle.modbus_server.proofs.values.values_are_served.Goals as goal

pub returns : goal.returns
returns c = all_served c.requests_are_read_back.ensures
