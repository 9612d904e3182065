use Rattle.laws_epoch_ends.proofs.Processes.{finds_new, one_run}
use Rattle.laws_epoch_ends.proofs.processes_of_an_epoch_are_one_run.Goals as goal

pub returns-clause-new : goal.returns-clause-new
returns-clause-new g c = λ f answer stores early late i epoch becomes right.
    finds_new f answer epoch stores (c.no_machine_begins_an_epoch_again.ensures) early late i becomes right

pub returns-clause-one : goal.returns-clause-one
returns-clause-one g c = λ f answer stores acts epoch right.
    one_run f answer epoch stores (c.no_machine_begins_an_epoch_again.ensures) acts right
