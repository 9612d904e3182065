use Rattle.laws_history.proofs.moves_are_lists.Goals as goal
use Rattle.laws_history.proofs.Along.{are_lists}

pub returns : goal.returns
returns g c = λ f answer moves k. are_lists f answer moves k
