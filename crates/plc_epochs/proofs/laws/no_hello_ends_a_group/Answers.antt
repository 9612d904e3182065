use Rattle.plc_epochs.proofs.GoingOnTogether as together
use Rattle.plc_epochs.proofs.laws.no_hello_ends_a_group.Goals as goal

pub returns : goal.returns
returns c = together.hears
