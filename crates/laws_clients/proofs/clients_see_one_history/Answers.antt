use Rattle.laws_clients.proofs.Histories.{history}
use Rattle.laws_clients.proofs.clients_see_one_history.Goals as goal

pub returns : goal.returns
returns g c = λ f answer moves right. history f answer (c.moves_are_lists.ensures f answer) (c.interleave.ensures f answer) (c.running_replicas_agree.ensures f answer) moves right
