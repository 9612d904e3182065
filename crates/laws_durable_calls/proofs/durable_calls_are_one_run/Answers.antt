use Rattle.laws_durable_calls.proofs.Showing.{one_run}
use Rattle.laws_durable_calls.proofs.durable_calls_are_one_run.Goals as goal

pub returns : goal.returns
returns c = one_run c.durable_machines_are_one_run.ensures
