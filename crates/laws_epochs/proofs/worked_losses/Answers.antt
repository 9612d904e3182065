use Rattle.laws_epochs.proofs.WorkedLosses.{worked}
use Rattle.laws_epochs.proofs.worked_losses.Goals as goal

pub returns : goal.returns
returns c = worked
