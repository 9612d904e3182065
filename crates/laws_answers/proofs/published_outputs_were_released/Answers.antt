use Rattle.laws_answers.proofs.Views.{published}
use Rattle.laws_answers.proofs.published_outputs_were_released.Goals as goal

pub returns : goal.returns
returns g c = λ was e client knows message sends so_far release at is all. published was e client knows message sends so_far release at is all
