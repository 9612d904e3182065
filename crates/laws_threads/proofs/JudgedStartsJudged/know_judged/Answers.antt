use Rattle.laws_threads.proofs.JudgedStartsJudged.know_judged.Goals as goal

pub returns : goal.returns
returns g c = λ s t stored b. b.0.1
