use Rattle.laws_durable.proofs.Moving.{runs_as_one}
use Rattle.laws_durable.proofs.durable_machines_are_one_run.Goals as goal

pub returns : goal.returns
returns g c = λ f answer early late are. runs_as_one f answer (c.observed_moves_are_one_run.ensures f answer) early late are
