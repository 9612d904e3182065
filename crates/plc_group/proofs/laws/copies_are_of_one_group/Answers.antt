use Rattle.plc_group.proofs.Copies.{one_group}
use Rattle.plc_group.proofs.laws.copies_are_of_one_group.Goals as goal

pub returns : goal.returns
returns c = one_group
