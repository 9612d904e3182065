use Rattle.std.proofs.Common.{◌≡◌, take, drop}
use Rattle.ctl_model.specs.Snapshots.{forced_slots}
use Rattle.ctl_scan.proofs.Restored.{IsNext}
use Rattle.ctl_scan.proofs.forces.restored_forces.Given as goal

abbrev pub invariant-loop-forced : goal.invariant-loop-forced
invariant-loop-forced l = record {
  slots : forced_slots l.forces ≡ take l.forced-index l.slots;
  next : IsNext l.forces (drop l.forced-index l.slots);
}
