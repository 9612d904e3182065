use Rattle.laws_epoch_ends.proofs.WorkedActs.{worked_acts}
use Rattle.laws_epoch_ends.proofs.worked_acts.Goals as goal

pub returns : goal.returns
returns g c = λ low high answer. worked_acts answer low high
