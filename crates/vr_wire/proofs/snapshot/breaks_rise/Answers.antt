use Rattle.vr_wire.specs.Snapshots.{rises_from}
use Rattle.vr_wire.proofs.Rising.{goes_down}
use Rattle.vr_wire.proofs.snapshot.breaks_rise.Goals as goal

pub returns-then-from-next : goal.returns-then-from-next
returns-then-from-next c = goes_down c.args.breaks.now c.loop-position.position-index c.loop-position.next c.from.result (rises_from 0 c.args.breaks.now) c.loop-position-test.true c.from.ensures c.if-from-next.true c.loop-position.invariant
