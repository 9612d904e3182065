use Rattle.laws_epoch_ends.proofs.Joining.{nothing_new}
use Rattle.laws_epoch_ends.proofs.nothing_new_comes_once_a_later_epoch_begins.Goals as goal

pub returns : goal.returns
returns g c = λ f answer stores belongs early late i now next epoch becomes later hosted.
    nothing_new f answer stores belongs (c.nothing_new_is_committed.ensures) (c.epochs_begin_behind_a_majority.ensures) early late i now next epoch becomes later hosted
