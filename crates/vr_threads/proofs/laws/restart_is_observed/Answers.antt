use Rattle.vr_threads.proofs.Observing.{restarted}
use Rattle.vr_threads.proofs.laws.restart_is_observed.Goals as goal

pub returns : goal.returns
returns g c = restarted g.S.ViewStore.load_gives g.S.ViewStore.save_gives g.S.ViewStore.faults
