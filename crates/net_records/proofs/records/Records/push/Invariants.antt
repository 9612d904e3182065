use Rattle.std.proofs.Common.{◌≡◌, length}
use Rattle.net_records.specs.Ends.{Pushes}
use Rattle.net_records.proofs.records.Records.push.Given as goal

-- what was written so far went out, and nothing was counted
abbrev pub invariant-writing : goal.invariant-writing
invariant-writing g l = record {
  went : Pushes (g.T.NonBlockingWrite.held l.initial.self.inner) (g.T.NonBlockingWrite.held l.self.inner) l.initial.self.waiting l.self.waiting;
  stops : g.T.NonBlockingWrite.stops l.self.inner ≡ g.T.NonBlockingWrite.stops l.initial.self.inner;
}

abbrev pub decreases-writing : goal.decreases-writing
decreases-writing g l = length l.self.waiting
