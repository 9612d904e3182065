use Rattle.std.proofs.Common.{length, ap, arith}
use Rattle.il_places.proofs.Walk.{line_next}
use Rattle.il_places.proofs.origins.origins_of.Goals as goal

pub loop-n-preserved : goal.loop-n-preserved
loop-n-preserved c = line_next c.args.traces.now c.args.calls.now c.loop-n.found.items _ _ c.args.flat.now.lines c.loop-n.n (omega (arith, ap length c.lines-n-end.ensures)) c.in_ok-put_origin.ensures c.loop-n.invariant
