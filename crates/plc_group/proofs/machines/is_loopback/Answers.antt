use Rattle.plc_group.proofs.Loopbacks.{loopback}
use Rattle.plc_group.proofs.machines.is_loopback.Goals as goal

pub returns : goal.returns
returns c = loopback c.is_loopback.result c.ip.result c.args.address c.ip.ensures c.is_loopback.ensures
