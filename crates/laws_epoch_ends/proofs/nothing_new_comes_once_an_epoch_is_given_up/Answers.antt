use Rattle.laws_epoch_ends.proofs.Joining.{ended_before}
use Rattle.laws_epoch_ends.proofs.nothing_new_comes_once_an_epoch_is_given_up.Goals as goal

pub returns : goal.returns
returns g c = λ f answer stores belongs early late i from now epoch next word becomes hosted.
    ended_before f answer stores belongs (c.nothing_new_is_committed.ensures) (c.machines_know_their_places.ensures) (λ s t e w a b step. c.no_store_goes_back.ensures.word s t e w a b step) early late i from now epoch next word becomes hosted
