use Rattle.laws_epochs.proofs.Once.{never_again}
use Rattle.laws_epochs.proofs.Standing.{going_on}
use Rattle.laws_epochs.proofs.no_machine_begins_an_epoch_again.Goals as goal

pub returns : goal.returns
returns c = λ f i stores early late epoch becomes right began. let n = c.no_store_goes_back.ensures in never_again f epoch i stores early late becomes (going_on n.looks n.stores n.hello n.sign n.recovery n.word) right began
