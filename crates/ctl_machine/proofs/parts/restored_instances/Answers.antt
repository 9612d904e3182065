use Rattle.std.proofs.Common.{subst}
use Rattle.ctl_machine.specs.Kept.{Restores}
use Rattle.ctl_machine.proofs.Restoring.{lost_at}
use Rattle.ctl_machine.proofs.parts.restored_instances.Goals as goal

pub returns-in_default : goal.returns-in_default
returns-in_default c = lost_at c.args.saved.now c.loop-x.x-index c.x-item.result c.loop-x-test.true c.x-item.is (subst (Restores c.x-item.result) c.in_default.is c.restored.ensures)
