use Rattle.laws_epochs.proofs.LosingMajorities.{who_began_keeps}
use Rattle.laws_epochs.proofs.Standing.{going_on}
use Rattle.laws_epochs.proofs.who_lost_its_disk_waits_above_what_it_began.Goals as goal

pub returns : goal.returns
returns c = λ f i stores early late epoch becomes right. let n = c.no_store_goes_back.ensures in who_began_keeps f i stores early late epoch becomes (going_on n.looks n.stores n.hello n.sign n.recovery n.word) right
