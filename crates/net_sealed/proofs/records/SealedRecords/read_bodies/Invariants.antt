use Rattle.std.proofs.Common.{◌≡◌, [], length}
use Rattle.net_sealed.specs.Coming.{Reads, stops_of}
use Rattle.net_sealed.proofs.records.SealedRecords.read_bodies.Given as goal

-- records were opened, of which nothing was given yet, and nothing was counted
abbrev pub invariant-turns : goal.invariant-turns
invariant-turns g l = record {
  reads : Reads (g.T.NonBlockingRead.left l.initial.self.inner) (g.T.NonBlockingRead.left l.self.inner) l.initial.self.incoming l.self.incoming [];
  stops : stops_of (g.T.NonBlockingRead.stops l.self.inner) l.self.ends ≡ stops_of (g.T.NonBlockingRead.stops l.initial.self.inner) l.initial.self.ends;
  room : length l.out ≡ length l.initial.out;
}
