use Rattle.laws_keys.proofs.Runs.{keyed_run}
use Rattle.laws_keys.proofs.keyed_machines_are_one_run.Goals as goal

pub returns : goal.returns
returns g c = λ group book early late each.
    keyed_run g.S.ViewStore.load_gives g.S.ViewStore.save_gives g.S.ViewStore.faults g.S.Starts.begin_gives g.S.Kept.holds g.S.Judged.is_first c.only_sealed_is_given.ensures c.machines_are_one_run.ensures group book early late each
