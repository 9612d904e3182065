use Rattle.std.proofs.Common.{◌≡◌, ◌++◌, drop}
use Rattle.plc_group.specs.Faults.{places_in, places_of}
use Rattle.plc_group.proofs.Walks.{from}
use Rattle.plc_group.proofs.machines.places.Given as goal

abbrev pub invariant-loop-number : goal.invariant-loop-number
invariant-loop-number l = l.places.items ++ from places_of l.number (drop l.number l.machines) ≡ places_in l.machines
