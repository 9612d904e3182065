use Rattle.laws_threads.proofs.Along.{runs_as_one}
use Rattle.laws_threads.proofs.threads_are_one_run.Goals as goal

pub returns : goal.returns
returns g c = λ group early late are.
    runs_as_one g.S.ViewStore.load_gives g.S.ViewStore.save_gives g.S.ViewStore.faults g.S.Starts.begin_gives g.S.Kept.holds c.know_kept.ensures group
    (c.next_moves_may_presuppose.ensures group.f group.answer) (c.observed_moves_are_one_run.ensures group.f group.answer) early late are
