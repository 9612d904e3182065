use Rattle.plc_restarts.proofs.Once.{once}
use Rattle.plc_restarts.proofs.laws.a_restart_is_made_once.Goals as goal

pub returns : goal.returns
returns c = once
