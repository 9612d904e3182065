use Rattle.std.proofs.Common.{◌≡◌, ◌++◌, take}
use Rattle.ctl_model.specs.Snapshots.{forced_bits}
use Rattle.ctl_scan.proofs.forces.save_bits.Given as goal

abbrev pub invariant-loop-i : goal.invariant-loop-i
invariant-loop-i l = l.slots.items ≡ l.fn.slots.items ++ forced_bits l.base (take l.i l.bits)
