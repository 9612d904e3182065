use Rattle.std.proofs.Common.{◌≡◌, drop}
use Rattle.vr_wire.specs.Snapshots.{rises_from}
use Rattle.vr_wire.proofs.snapshot.breaks_rise.Given as goal

abbrev pub invariant-loop-position : goal.invariant-loop-position
invariant-loop-position l = rises_from l.next (drop l.position-index l.breaks) ≡ rises_from 0 l.breaks
