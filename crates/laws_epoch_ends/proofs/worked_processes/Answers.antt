use Rattle.laws_epoch_ends.proofs.WorkedProcesses.{worked_processes}
use Rattle.laws_epoch_ends.proofs.worked_processes.Goals as goal

pub returns : goal.returns
returns g c = λ low high answer. worked_processes answer low high
