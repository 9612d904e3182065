use Rattle.std.proofs.Common.{◌≡◌, ◌-◌, ◌*◌, length, take}
use Rattle.plc_epochs.specs.Visits.{nonces_of, told_of}
use Rattle.plc_epochs.proofs.Nonces.{behind}
use Rattle.plc_epochs.proofs.visit.told_of.Given as goal

abbrev pub invariant-loop-machine : goal.invariant-loop-machine
invariant-loop-machine l = record {
  so_far : behind (take l.machine l.told) (nonces_of (7 - l.machine) l.rest) ≡ told_of l.bytes;
  long : length l.rest ≡ 9 * (7 - l.machine);
  each : length l.told ≡ 7;
}
