use Rattle.laws_answers.proofs.Views.{shown_answers}
use Rattle.laws_answers.proofs.readers_are_shown_answers.Goals as goal

pub returns : goal.returns
returns g c = λ program budget was sees trace client published seen lists all prefix some. shown_answers program budget was sees client trace published seen lists all prefix some
