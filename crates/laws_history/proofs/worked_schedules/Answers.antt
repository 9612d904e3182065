use Rattle.laws_history.proofs.worked_schedules.Goals as goal
use Rattle.laws_history.proofs.Schedules.{worked_schedules}

pub returns : goal.returns
returns g c = λ answer a b. worked_schedules answer a b
