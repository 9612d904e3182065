use Rattle.std.proofs.Common.{◌≡◌, [], take, drop}
use Rattle.plc_group.specs.Faults.{first, twice_after}
use Rattle.plc_group.proofs.machines.first_again.Given as goal

abbrev pub invariant-loop-index : goal.invariant-loop-index
invariant-loop-index l = first (twice_after (take l.index l.places) (drop l.index l.places)) ≡ first (twice_after [] l.places)
