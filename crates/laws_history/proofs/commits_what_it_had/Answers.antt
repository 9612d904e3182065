use Rattle.laws_history.proofs.OwnCommits.{commits_what_it_had}
use Rattle.laws_history.proofs.commits_what_it_had.Goals as goal

pub returns : goal.returns
returns g c = λ f answer events. commits_what_it_had f answer events
