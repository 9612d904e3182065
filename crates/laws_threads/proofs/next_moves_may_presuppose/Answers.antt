use Rattle.laws_threads.proofs.OneRun.{presupposes}
use Rattle.laws_threads.proofs.next_moves_may_presuppose.Goals as goal

pub returns : goal.returns
returns g c = λ f answer moves are.
    presupposes f answer (c.moves_are_lists.ensures f answer) (c.interleave.ensures f answer) (c.rules_keep_executed.ensures f answer) (c.new_states_hand_logs_on.ensures f answer) moves are
