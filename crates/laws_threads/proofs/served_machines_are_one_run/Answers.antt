use Rattle.laws_threads.proofs.served_machines_are_one_run.Goals as goal

pub returns : goal.returns
returns g c = λ group early late each. c.machines_are_one_run.ensures group early late each
