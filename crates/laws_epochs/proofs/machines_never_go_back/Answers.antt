use Rattle.laws_epochs.specs.Machines.{at_rest}
use Rattle.laws_epochs.proofs.Standing.{first, going_on, never_back, over}
use Rattle.laws_epochs.proofs.machines_never_go_back.Goals as goal

pub returns-clause-goes_on : goal.returns-clause-goes_on
returns-clause-goes_on c = λ f i stores early late epoch right came. let n = c.no_store_goes_back.ensures in never_back f stores early late i epoch (going_on n.looks n.stores n.hello n.sign n.recovery n.word) right came

pub returns-clause-said : goal.returns-clause-said
returns-clause-said c = λ f i place stores moves epoch right said. let n = c.no_store_goes_back.ensures in
    (over f moves (at_rest stores) (going_on n.looks n.stores n.hello n.sign n.recovery n.word) (first f stores) right).0.said place (i, epoch) said
