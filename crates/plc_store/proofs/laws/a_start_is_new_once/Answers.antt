use Rattle.plc_store.proofs.Readings.{never_new, new_entered}
use Rattle.plc_store.proofs.laws.a_start_is_new_once.Goals as goal

pub returns-clause-begun : goal.returns-clause-begun
returns-clause-begun c = never_new

pub returns-clause-entered : goal.returns-clause-entered
returns-clause-entered c = new_entered
