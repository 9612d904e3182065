use Rattle.laws_threads.proofs.Silent.{shows_the_same}
use Rattle.laws_threads.proofs.silent_moves_may_be_left_out.Goals as goal

pub returns : goal.returns
returns g c = λ group moves kept without. shows_the_same group moves kept without
