use Rattle.field_map.proofs.GatheredLaws.{each_gathered}
use Rattle.field_map.proofs.laws.know_each_reading.Goals as goal

pub returns : goal.returns
returns c = each_gathered
