use Rattle.vr_replica.specs.Standing.{StandsFor}
use Rattle.vr_world.specs.declared.shelf.Shelf.{Shelf}
use Rattle.vr_world.proofs.Seats.{went, was_lost, sent_nothing}
use Rattle.vr_world.proofs.seat.SeatMember.step.Goals as goal

pub returns-in-Ok : goal.returns-in-Ok
returns-in-Ok c = λ m r x stands taken keeps fits.
    let shelf : Shelf = record { store = c.args.store.now; faults = 0 } in
    went (StandsFor c.step-stepped.new.self m) m r shelf c.step-stepped.new.store c.args.event x taken keeps fits c.in-Ok.sends (rw c.in-Ok.is at (c.step-stepped.ensures.row m r stands))

pub returns-in-Memory : goal.returns-in-Memory
returns-in-Memory c = λ m r x stands taken keeps fits.
    let shelf : Shelf = record { store = c.args.store.now; faults = 0 } in
    was_lost (StandsFor c.step-stepped.new.self m) m r shelf c.step-stepped.new.store c.args.event x taken keeps fits c.in-Err.fault c.in-Memory.is (rw c.in-Err.is at (c.step-stepped.ensures.row m r stands))

pub returns-in-Store : goal.returns-in-Store
returns-in-Store c = λ m r x stands taken keeps fits.
    let shelf : Shelf = record { store = c.args.store.now; faults = 0 } in
    sent_nothing (StandsFor c.step-stepped.new.self m) m r shelf c.step-stepped.new.store c.args.event x taken keeps fits c.in-Err.fault c.new.result.items c.new.ensures.items c.in-Store.is (rw c.in-Err.is at (c.step-stepped.ensures.row m r stands))
