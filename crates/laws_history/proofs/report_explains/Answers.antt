use Rattle.laws_history.proofs.Reports.{explains}
use Rattle.laws_history.proofs.report_explains.Goals as goal

pub returns : goal.returns
returns g c = λ f answer events. explains f answer events
