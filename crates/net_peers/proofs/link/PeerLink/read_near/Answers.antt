use Rattle.std.proofs.Common.{None}
use Rattle.net_peers.proofs.link.PeerLink.read_near.Goals as goal

pub invariant_of-self-2 : goal.invariant_of-self-2
invariant_of-self-2 g c = record { came_from = c.turn_round.ensures None c.args.self.now.party c.keep_to.ensures }
