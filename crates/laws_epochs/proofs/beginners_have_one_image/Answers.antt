use Rattle.laws_epochs.proofs.Beginning.{one_image}
use Rattle.laws_epochs.proofs.beginners_have_one_image.Goals as goal

pub returns : goal.returns
returns c = one_image
