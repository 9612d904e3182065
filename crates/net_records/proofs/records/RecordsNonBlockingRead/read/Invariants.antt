use Rattle.std.proofs.Common.{◌≡◌}
use Rattle.std.specs.Io.KnownBytes.{Keeps}
use Rattle.net_records.specs.Ends.{to_give, stops_of}
use Rattle.net_records.proofs.records.RecordsNonBlockingRead.read.Given as goal

-- nothing was given yet, and nothing counted
abbrev pub invariant-pieces : goal.invariant-pieces
invariant-pieces g l = record {
  kept : Keeps (to_give l.initial.self.coming (g.T.NonBlockingRead.left l.initial.self.inner)) (to_give l.self.coming (g.T.NonBlockingRead.left l.self.inner));
  stops : stops_of (g.T.NonBlockingRead.stops l.self.inner) l.self.ends ≡ stops_of (g.T.NonBlockingRead.stops l.initial.self.inner) l.initial.self.ends;
}
