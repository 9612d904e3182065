use Rattle.modbus_server.proofs.Readers.{unstaged}
use Rattle.modbus_server.proofs.rights.readers_stage_nothing.Goals as goal

pub returns : goal.returns
returns c end left left' held held' r r' w w' images images' is talks = unstaged end left left' held held' r r' w w' images images' is talks
