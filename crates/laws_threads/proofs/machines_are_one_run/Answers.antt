use Rattle.std.proofs.Common.{◌++◌}
use Rattle.laws_threads.proofs.Machines.{each_own}
use Rattle.laws_threads.proofs.machines_are_one_run.Goals as goal

pub returns : goal.returns
returns g c = λ group early late each. c.threads_are_one_run.ensures group early late
    (c.lists_are_moves.ensures group (early ++ late)
    (each_own g.S.ViewStore.load_gives g.S.ViewStore.save_gives g.S.ViewStore.faults g.S.Starts.begin_gives g.S.Kept.holds g.S.Judged.is_first c.know_judged.ensures group (early ++ late) each))
