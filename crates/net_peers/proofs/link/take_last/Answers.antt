use Rattle.net_peers.proofs.Passed.{from_popped}
use Rattle.net_peers.proofs.link.take_last.Goals as goal

pub returns-clause-others : goal.returns-clause-others
returns-clause-others c = λ source own all. (from_popped source own _ _ _ c.pop.ensures.items all).0

pub returns-clause-last : goal.returns-clause-last
returns-clause-last c = λ source own all. (from_popped source own _ _ _ c.pop.ensures.items all).1
