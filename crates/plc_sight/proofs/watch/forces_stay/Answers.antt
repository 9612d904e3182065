use Rattle.plc_sight.proofs.Staying.{leaves}
use Rattle.plc_sight.proofs.watch.forces_stay.Goals as goal

pub returns : goal.returns
returns c = leaves
