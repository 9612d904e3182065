use Rattle.laws_threads.proofs.Seen.{seen}
use Rattle.laws_threads.proofs.one_run_is_one_history.Goals as goal

pub returns : goal.returns
returns g c = λ group early late one. seen group (c.clients_see_one_history.ensures group.f group.answer) early late one
