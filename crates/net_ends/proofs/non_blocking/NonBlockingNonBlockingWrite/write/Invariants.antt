use Rattle.std.proofs.Common.{◌≡◌}
use Rattle.std.specs.Io.KnownBytes.{Keeps}
use Rattle.net_ends.proofs.non_blocking.NonBlockingNonBlockingWrite.write.Given as goal

-- no byte went, and nothing was counted
abbrev pub invariant-loop : goal.invariant-loop
invariant-loop g l = record {
  bytes : Keeps (g.T.Write.contents l.initial.self.inner) (g.T.Write.contents l.self.inner);
  stops : l.self.stops ≡ l.initial.self.stops;
}
