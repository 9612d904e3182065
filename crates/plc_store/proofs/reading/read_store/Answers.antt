use Rattle.plc_store.proofs.Readings.{found, refused, other}
use Rattle.plc_store.proofs.reading.read_store.Goals as goal

pub returns-clause-found : goal.returns-clause-found
returns-clause-found c = found c.args.bytes.now c.read.result c.read.ensures

pub returns-clause-refused : goal.returns-clause-refused
returns-clause-refused c = refused c.args.bytes.now c.read.result c.read.ensures

pub returns-clause-other : goal.returns-clause-other
returns-clause-other c = other c.args.bytes.now c.read.result c.read.ensures
