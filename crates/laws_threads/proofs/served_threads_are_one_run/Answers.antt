use Rattle.laws_threads.proofs.served_threads_are_one_run.Goals as goal

pub returns : goal.returns
returns g c = λ group early late are. c.threads_are_one_run.ensures group early late are
