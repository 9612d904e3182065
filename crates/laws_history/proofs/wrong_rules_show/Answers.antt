use Rattle.laws_history.proofs.wrong_rules_show.Goals as goal
use Rattle.laws_history.proofs.WrongRules.{wrong_rules_show}

pub returns : goal.returns
returns g c = λ answer a b c. wrong_rules_show answer a b c
