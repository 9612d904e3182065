use Rattle.net_links.proofs.Own.{are_between_permuted}
use Rattle.net_links.proofs.tcp_link.turn_round.Goals as goal

pub returns : goal.returns
returns c = λ from to all. are_between_permuted from to _ _ c.reverse.ensures.permutation all
