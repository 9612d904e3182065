use Rattle.laws_epoch_ends.proofs.LostDisks.{nothing_new}
use Rattle.laws_epoch_ends.proofs.nothing_new_comes_though_disks_are_lost.Goals as goal

pub returns : goal.returns
returns g c = λ f answer stores early late i now next epoch becomes later hosted.
    nothing_new f answer stores (c.nothing_new_is_committed.ensures) (c.majorities_keep_to_what_they_begin.ensures) early late i now next epoch becomes later hosted
