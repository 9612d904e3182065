use Rattle.field_cycle.proofs.RoundLaws.{each_round}
use Rattle.field_cycle.proofs.laws.know_a_round.Goals as goal

pub returns : goal.returns
returns c = each_round
