use Rattle.std.proofs.Common.{◌≡◌, drop, map}
use Rattle.toml.specs.View.{view}
use Rattle.plc_group.specs.Faults.{each_faults, machine_faults}
use Rattle.plc_group.specs.Values.{all_of, machine_of}
use Rattle.plc_group.proofs.Walks.{behind, from}
use Rattle.plc_group.proofs.machines.each_machine.Given as goal

-- what was read, and behind it what the rest gives; and the faults are those of the rest
abbrev pub invariant-loop-place : goal.invariant-loop-place
invariant-loop-place l = record {
  read : behind machine_of l.machines.items (drop l.place (map view l.values)) ≡ all_of machine_of (map view l.values);
  faults : from machine_faults l.place (drop l.place (map view l.values)) ≡ each_faults (map view l.values);
}
