use Rattle.std.proofs.Common.{◌≡◌}
use Rattle.net_peers.proofs.link.PeerLink.read_ready.Given as goal

-- whose link it is stays
abbrev pub invariant-loop : goal.invariant-loop
invariant-loop g l = l.self.party ≡ l.initial.self.party
