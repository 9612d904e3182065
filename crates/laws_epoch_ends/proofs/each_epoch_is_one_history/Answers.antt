use Rattle.laws_epoch_ends.specs.Acts.{events_in}
use Rattle.laws_epoch_ends.proofs.Joining.{events_append}
use Rattle.laws_epoch_ends.proofs.each_epoch_is_one_history.Goals as goal

pub returns-clause-goes_on : goal.returns-clause-goes_on
returns-clause-goes_on g c = λ epoch early late. events_append epoch early late

pub returns-clause-one : goal.returns-clause-one
returns-clause-one g c = λ f answer epoch early late. c.one_history.ensures f answer (events_in epoch early) (events_in epoch late)
