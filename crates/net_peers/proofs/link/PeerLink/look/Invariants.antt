use Rattle.std.proofs.Common.{◌≡◌}
use Rattle.net_peers.proofs.link.PeerLink.look.Given as goal

-- whose link it is stays
abbrev pub invariant-loop-place : goal.invariant-loop-place
invariant-loop-place g l = l.self.party ≡ l.initial.self.party
