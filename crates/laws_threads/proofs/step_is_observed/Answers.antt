use Rattle.laws_threads.proofs.Stepping.{step_shown}
use Rattle.laws_threads.proofs.step_is_observed.Goals as goal

pub returns : goal.returns
returns g c = step_shown g.S.ViewStore.load_gives g.S.ViewStore.save_gives g.S.ViewStore.faults
