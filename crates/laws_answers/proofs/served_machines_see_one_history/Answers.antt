use Rattle.laws_answers.proofs.served_machines_see_one_history.Goals as goal

pub returns : goal.returns
returns g c = λ f program budget early late did. c.machines_see_one_history.ensures f program budget early late did
