use Rattle.laws_threads.proofs.Serving.{served}
use Rattle.laws_threads.proofs.serving_is_own_moves.Goals as goal

pub returns : goal.returns
returns g c = λ turns a b did group i given. served g.S.ViewStore.load_gives g.S.ViewStore.save_gives g.S.ViewStore.faults g.S.Starts.begin_gives g.S.Kept.holds group i turns a b did given
