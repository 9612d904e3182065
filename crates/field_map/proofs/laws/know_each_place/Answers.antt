use Rattle.field_map.proofs.GivenLaws.{each_given}
use Rattle.field_map.proofs.laws.know_each_place.Goals as goal

pub returns : goal.returns
returns c = each_given
