use Rattle.laws_history.proofs.stores_are_told.Goals as goal
use Rattle.laws_history.proofs.Told.{first_told}

pub returns : goal.returns
returns g c = λ f i answer observations are. first_told f i answer observations are
