use Rattle.laws_history.proofs.running_replicas_agree.Goals as goal
use Rattle.laws_history.proofs.Agreement.{run_as_one}

pub returns : goal.returns
returns g c = λ f answer steps client_steps early late each order. run_as_one f answer steps client_steps early late each order
