use Rattle.std.proofs.Common.{◌≡◌}
use Rattle.net_links.proofs.tcp_link.TcpLink.reconnect.Given as goal

-- whose link it is stays
abbrev pub invariant-loop-other : goal.invariant-loop-other
invariant-loop-other g l = l.self.party ≡ l.initial.self.party
