use Rattle.laws_threads.proofs.Serving.{worked_off}
use Rattle.laws_threads.proofs.working_is_own_moves.Goals as goal

pub returns : goal.returns
returns g c = λ turns ticks ticks_after inputs inputs_after sent sent_after found left group i did seat given as_left unused.
    worked_off g.S.ViewStore.load_gives g.S.ViewStore.save_gives g.S.ViewStore.faults g.S.Starts.begin_gives g.S.Kept.holds group i turns ticks ticks_after inputs inputs_after sent sent_after found left did seat given as_left unused
