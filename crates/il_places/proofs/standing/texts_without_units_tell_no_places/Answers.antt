use Rattle.il_places.proofs.Nowhere.{all_told_alone}
use Rattle.il_places.proofs.standing.texts_without_units_tell_no_places.Goals as goal

pub returns : goal.returns
returns c = λ given. all_told_alone given
