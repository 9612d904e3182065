use Rattle.laws_epochs.proofs.LosingMajorities.{once}
use Rattle.laws_epochs.proofs.Standing.{going_on}
use Rattle.laws_epochs.proofs.no_epoch_is_begun_twice_though_disks_are_lost.Goals as goal

pub returns : goal.returns
returns c = λ f i stores early late epoch first second right. let n = c.no_store_goes_back.ensures in once f epoch i stores early late first second (going_on n.looks n.stores n.hello n.sign n.recovery n.word) right
