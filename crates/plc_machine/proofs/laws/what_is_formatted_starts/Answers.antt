use Rattle.plc_machine.proofs.Starting.{starts, waits}
use Rattle.plc_machine.proofs.laws.what_is_formatted_starts.Goals as goal

pub returns-clause-new : goal.returns-clause-new
returns-clause-new c = starts

pub returns-clause-waiting : goal.returns-clause-waiting
returns-clause-waiting c = waits
