use Rattle.laws_threads.proofs.Serving.{joined}
use Rattle.laws_threads.proofs.own_moves_join.Goals as goal

pub returns : goal.returns
returns g c = λ group i seat given early late before after.
    joined g.S.ViewStore.load_gives g.S.ViewStore.save_gives g.S.ViewStore.faults g.S.Starts.begin_gives g.S.Kept.holds group i early late seat given before after
