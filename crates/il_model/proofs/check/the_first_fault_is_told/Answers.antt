use Rattle.il_model.proofs.FirstFaults.{tells_the_first}
use Rattle.il_model.proofs.check.the_first_fault_is_told.Goals as goal

pub returns : goal.returns
returns c = λ Q n sh line. tells_the_first Q n sh line
