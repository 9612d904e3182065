use Rattle.laws_history.proofs.KeptEntries.{rules_keep_executed}
use Rattle.laws_history.proofs.rules_keep_executed.Goals as goal

pub returns : goal.returns
returns g c = λ f answer events. rules_keep_executed f answer events
