use Rattle.laws_threads.proofs.OneRun.{one_run}
use Rattle.laws_threads.proofs.observed_moves_are_one_run.Goals as goal

pub returns : goal.returns
returns g c = λ f answer early late are. one_run f answer (c.moves_are_lists.ensures f answer) (c.running_replicas_agree.ensures f answer) early late are
