use Rattle.laws_cold_start.proofs.Ended.{never_committed}
use Rattle.laws_cold_start.proofs.nothing_new_is_committed.Goals as goal

pub returns : goal.returns
returns g c = λ f answer early late who nonces m k out. never_committed f answer early late who nonces m (λ es more. c.one_history.ensures f answer es more) k out
