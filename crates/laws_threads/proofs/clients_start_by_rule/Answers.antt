use Rattle.laws_threads.proofs.Widening.{by_rule}
use Rattle.laws_threads.proofs.clients_start_by_rule.Goals as goal

pub returns : goal.returns
returns g c = λ group early late over taken. by_rule group early late over taken
