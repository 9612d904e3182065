use Rattle.laws_epoch_ends.proofs.LostDisks.{finds_new, one_run}
use Rattle.laws_epoch_ends.proofs.processes_are_one_run_though_disks_are_lost.Goals as goal

pub returns-clause-new : goal.returns-clause-new
returns-clause-new g c = λ f answer stores early late i epoch becomes right.
    finds_new f answer epoch stores (c.no_epoch_is_begun_twice_though_disks_are_lost.ensures) early late i becomes right

pub returns-clause-one : goal.returns-clause-one
returns-clause-one g c = λ f answer stores deeds epoch right.
    one_run f answer epoch stores (c.no_epoch_is_begun_twice_though_disks_are_lost.ensures) deeds right
