use Rattle.laws_epochs.proofs.LosingMajorities.{majority_keeps}
use Rattle.laws_epochs.proofs.Standing.{going_on}
use Rattle.laws_epochs.proofs.majorities_keep_to_what_they_begin.Goals as goal

pub returns : goal.returns
returns c = λ f machine now stores early epoch becomes right. let n = c.no_store_goes_back.ensures in majority_keeps f machine now stores early epoch becomes (going_on n.looks n.stores n.hello n.sign n.recovery n.word) right
