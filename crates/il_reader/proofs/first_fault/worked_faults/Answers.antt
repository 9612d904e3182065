use Rattle.il_reader.proofs.WorkedFaults.{worked}
use Rattle.il_reader.proofs.first_fault.worked_faults.Goals as goal

pub returns : goal.returns
returns c = worked
