use Rattle.ctl_model.proofs.Carrying.{carries_over, carried_suits}
use Rattle.ctl_model.proofs.a_change_carries_over.Goals as goal

pub returns-clause-carries : goal.returns-clause-carries
returns-clause-carries c = carries_over

pub returns-clause-suits : goal.returns-clause-suits
returns-clause-suits c = carried_suits
