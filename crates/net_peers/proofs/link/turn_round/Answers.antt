use Rattle.net_peers.proofs.Passed.{from_permuted}
use Rattle.net_peers.proofs.link.turn_round.Goals as goal

pub returns : goal.returns
returns c = λ source own all. from_permuted source own _ _ c.reverse.ensures.permutation all
