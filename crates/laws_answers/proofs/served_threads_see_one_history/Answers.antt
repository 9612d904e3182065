use Rattle.laws_answers.proofs.served_threads_see_one_history.Goals as goal

pub returns : goal.returns
returns g c = λ f program budget early late did. c.threads_see_one_history.ensures f program budget early late did
