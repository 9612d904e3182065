use Rattle.ctl_debugger.proofs.Readied.{outcome_ready}
use Rattle.ctl_debugger.proofs.what_is_ready_is_its_command.Goals as goal

pub returns : goal.returns
returns c = outcome_ready
