use Rattle.laws_answers.proofs.Views.{later_later}
use Rattle.laws_answers.proofs.later_outputs_stand_later.Goals as goal

pub returns : goal.returns
returns g = later_later
