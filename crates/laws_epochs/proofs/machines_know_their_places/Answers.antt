use Rattle.laws_epochs.specs.Machines.{at_rest}
use Rattle.laws_epochs.proofs.Standing.{first, going_on, over}
use Rattle.laws_epochs.proofs.machines_know_their_places.Goals as goal

pub returns : goal.returns
returns c = λ f i stores moves a right runs. let n = c.no_store_goes_back.ensures in
    let fine = (over f moves (at_rest stores) (going_on n.looks n.stores n.hello n.sign n.recovery n.word) (first f stores) right).0.each i a runs in
    record { number = fine.number; group = fine.group; within = fine.within }
