use Rattle.std.proofs.Common.{◌≡◌, length}
use Rattle.net_sealed.specs.Coming.{stops_of}
use Rattle.net_sealed.proofs.records.SealedRecords.push.Given as goal

-- nothing was sealed or counted
abbrev pub invariant-writing : goal.invariant-writing
invariant-writing g l = record {
  sealer : l.self.outgoing.sealer ≡ l.initial.self.outgoing.sealer;
  stops : stops_of (g.T.NonBlockingWrite.stops l.self.inner) l.self.ends ≡ stops_of (g.T.NonBlockingWrite.stops l.initial.self.inner) l.initial.self.ends;
}

abbrev pub decreases-writing : goal.decreases-writing
decreases-writing g l = length l.self.outgoing.waiting
