use Rattle.laws_threads.proofs.Serving.{served_until}
use Rattle.laws_threads.proofs.killed_serving_is_own_moves.Goals as goal

pub returns : goal.returns
returns g c = λ turns later last event a b did is group i given. served_until g.S.ViewStore.load_gives g.S.ViewStore.save_gives g.S.ViewStore.faults g.S.Starts.begin_gives g.S.Kept.holds group i turns last later event a b did is given
