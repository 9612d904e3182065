use Rattle.laws_cold_start.proofs.Frozen.{take_no_part}
use Rattle.laws_cold_start.proofs.frozen_replicas_take_no_part.Goals as goal

pub returns : goal.returns
returns g c = λ f answer early late who nonces k. take_no_part f answer early late who nonces k
