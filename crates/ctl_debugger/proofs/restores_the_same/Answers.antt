use Rattle.ctl_debugger.proofs.SavedAgain.{restored_same}
use Rattle.ctl_debugger.proofs.restores_the_same.Goals as goal

pub returns : goal.returns
returns c = restored_same c.snapshots_tell_instances.ensures
