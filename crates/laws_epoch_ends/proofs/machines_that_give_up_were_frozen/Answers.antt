use Rattle.laws_epoch_ends.proofs.Evidence.{gave_up}
use Rattle.laws_epoch_ends.proofs.machines_that_give_up_were_frozen.Goals as goal

pub returns : goal.returns
returns c = λ f i from now stores early epoch next word becomes right.
    (gave_up (c.machines_know_their_places.ensures) (λ s t e w a b step. c.no_store_goes_back.ensures.word s t e w a b step) f stores early i from now epoch next word becomes right).were_frozen
