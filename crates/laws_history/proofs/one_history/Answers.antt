use Rattle.laws_history.proofs.Histories.{one_history}
use Rattle.laws_history.proofs.one_history.Goals as goal

pub returns : goal.returns
returns g c = λ f answer early late. one_history f answer early late
