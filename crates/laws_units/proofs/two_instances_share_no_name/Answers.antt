use Rattle.laws_units.proofs.Apart.{apart}
use Rattle.laws_units.proofs.two_instances_share_no_name.Goals as goal

pub returns : goal.returns
returns c = apart
