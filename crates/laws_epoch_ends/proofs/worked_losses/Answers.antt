use Rattle.laws_epoch_ends.proofs.WorkedLosses.{worked_losses}
use Rattle.laws_epoch_ends.proofs.worked_losses.Goals as goal

pub returns : goal.returns
returns g c = λ low high answer. worked_losses answer low high
