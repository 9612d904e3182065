use Rattle.il_loader.proofs.WellFormed.{has_image, well_formed}
use Rattle.il_loader.proofs.laws.know_well_formed.Goals as goal

pub returns-clause-image : goal.returns-clause-image
returns-clause-image c = has_image

pub returns-clause-well_formed : goal.returns-clause-well_formed
returns-clause-well_formed c = well_formed
