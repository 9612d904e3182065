use Rattle.std.proofs.Common.{None}
use Rattle.laws_threads.specs.MachineMoves.{AreMachineMoves}
use Rattle.laws_keys.proofs.Ran.{keyed_ran}
use Rattle.laws_keys.proofs.keyed_machines_that_ran_are_one_run.Goals as goal

pub returns : goal.returns
returns g c = λ group book early late did.
    keyed_ran (λ i moves. AreMachineMoves g.S.ViewStore.load_gives g.S.ViewStore.save_gives g.S.ViewStore.faults g.S.Starts.begin_gives g.S.Kept.holds g.S.Judged.is_first group i None 0 moves) group
    c.only_sealed_is_given.ensures
    (c.machines_that_ran_are_one_run.ensures group) book early late did
