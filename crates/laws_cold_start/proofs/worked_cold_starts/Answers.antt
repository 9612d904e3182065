use Rattle.laws_cold_start.proofs.WorkedColdStarts.{worked_cold_starts}
use Rattle.laws_cold_start.proofs.worked_cold_starts.Goals as goal

pub returns : goal.returns
returns g c = λ answer a b. worked_cold_starts answer a b
