use Rattle.laws_epoch_ends.proofs.Worked.{worked}
use Rattle.laws_epoch_ends.proofs.worked_epochs.Goals as goal

pub returns : goal.returns
returns c = worked
