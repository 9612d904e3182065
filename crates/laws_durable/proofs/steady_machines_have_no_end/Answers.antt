use Rattle.laws_durable.proofs.Steady.{has_no_end}
use Rattle.laws_durable.proofs.steady_machines_have_no_end.Goals as goal

pub returns : goal.returns
returns g c = λ f answer early late steady are many none.
    has_no_end f answer (c.moves_are_lists.ensures f answer) (c.interleave.ensures f answer) early late steady (c.durable_machines_are_one_run.ensures f answer early late are) many none
