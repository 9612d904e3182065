use Rattle.laws_threads.proofs.Ordering.{in_one_order}
use Rattle.laws_threads.proofs.lists_are_moves.Goals as goal

pub returns : goal.returns
returns g c = λ group moves each. in_one_order g.S.ViewStore.load_gives g.S.ViewStore.save_gives g.S.ViewStore.faults g.S.Starts.begin_gives g.S.Kept.holds group moves each
