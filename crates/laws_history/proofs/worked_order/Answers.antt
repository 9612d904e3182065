use Rattle.laws_history.proofs.worked_order.Goals as goal
use Rattle.laws_history.proofs.WorkedOrder.{worked_order}

pub returns : goal.returns
returns g c = λ answer a. worked_order answer a
