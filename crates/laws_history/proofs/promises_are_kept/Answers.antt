use Rattle.laws_history.proofs.promises_are_kept.Goals as goal
use Rattle.laws_history.proofs.Promises.{promises_are_kept}

pub returns : goal.returns
returns g c = λ f answer events. promises_are_kept f answer events
