use Rattle.plc_store.proofs.Readings.{cut}
use Rattle.plc_store.proofs.laws.cut_is_refused.Goals as goal

pub returns : goal.returns
returns c = cut
