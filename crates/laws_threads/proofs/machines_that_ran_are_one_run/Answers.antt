use Rattle.laws_threads.specs.MachineMoves.{AreMachineMoves}
use Rattle.std.proofs.Common.{None}
use Rattle.laws_threads.proofs.Ran.{ran}
use Rattle.laws_threads.proofs.machines_that_ran_are_one_run.Goals as goal

pub returns : goal.returns
returns g c = λ group early late did.
    ran (λ i moves. AreMachineMoves g.S.ViewStore.load_gives g.S.ViewStore.save_gives g.S.ViewStore.faults g.S.Starts.begin_gives g.S.Kept.holds g.S.Judged.is_first group i None 0 moves) group
    (λ first second right none clients taken. c.machines_are_one_run.ensures group first second (record { machines = right; no_others = none; clients = clients; taken = taken }))
    (c.one_run_is_one_history.ensures group) early late did
