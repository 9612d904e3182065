use Rattle.laws_history.proofs.interleave.Goals as goal
use Rattle.laws_history.proofs.Orders.{in_one_order}

pub returns : goal.returns
returns g c = λ f answer steps client_steps moves each order. in_one_order f answer steps client_steps moves each order
