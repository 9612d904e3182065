use Rattle.std.proofs.Common.{◌≡◌, List, length}
use Rattle.std.specs.Prelude.{All}
use Rattle.vr_serving.specs.Serving.{GoesOn, Did, Turn, scene}
use Rattle.vr_serving.specs.Showing.{KeepsShowing}
use Rattle.vr_serving.proofs.serving.serve_from.Given as goal

abbrev pub invariant-loop : goal.invariant-loop
invariant-loop g l = (turns : List Turn) × All GoesOn turns × (length turns ≡ l.counter)
    × Did g.S.ViewStore.load_gives g.S.ViewStore.save_gives g.S.ViewStore.faults turns
    (scene (g.T.Timer.ticks l.initial.seat.timer) (g.L.Link.inputs l.initial.seat.link) (g.L.Link.sent l.initial.seat.link) l.initial.replica l.initial.seat.store)
    (scene (g.T.Timer.ticks l.seat.timer) (g.L.Link.inputs l.seat.link) (g.L.Link.sent l.seat.link) l.replica l.seat.store)
    × KeepsShowing l.initial.replica l.replica l.initial.shown l.shown
