use Rattle.laws_epoch_ends.proofs.Evidence.{stays_frozen}
use Rattle.laws_epoch_ends.proofs.who_was_frozen_stays_so.Goals as goal

pub returns : goal.returns
returns c = λ f i nonce stores early late epoch right frozen. stays_frozen f stores early late i epoch nonce right frozen
