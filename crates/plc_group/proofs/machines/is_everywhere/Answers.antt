use Rattle.plc_group.proofs.Loopbacks.{everywhere}
use Rattle.plc_group.proofs.machines.is_everywhere.Goals as goal

pub returns : goal.returns
returns c = everywhere c.is_unspecified.result c.ip.result c.args.address c.ip.ensures c.is_unspecified.ensures
