use Rattle.laws_epochs.proofs.Waiting.{passes_by}
use Rattle.laws_epochs.proofs.Standing.{going_on}
use Rattle.laws_epochs.proofs.who_waits_above_an_epoch_passes_it_by.Goals as goal

pub returns : goal.returns
returns c = λ f i stores early late epoch right waits. let n = c.no_store_goes_back.ensures in passes_by f epoch i stores early late (going_on n.looks n.stores n.hello n.sign n.recovery n.word) right waits
