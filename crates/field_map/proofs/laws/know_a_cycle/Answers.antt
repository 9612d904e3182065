use Rattle.field_map.proofs.CarriedLaws.{each_carried}
use Rattle.field_map.proofs.laws.know_a_cycle.Goals as goal

pub returns : goal.returns
returns c = each_carried
