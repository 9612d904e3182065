use Rattle.net_links.proofs.Own.{are_between_popped}
use Rattle.net_links.proofs.tcp_link.take_last.Goals as goal

pub returns-clause-others : goal.returns-clause-others
returns-clause-others c = λ from to all. (are_between_popped from to _ _ _ c.pop.ensures.items all).0

pub returns-clause-last : goal.returns-clause-last
returns-clause-last c = λ from to all. (are_between_popped from to _ _ _ c.pop.ensures.items all).1
