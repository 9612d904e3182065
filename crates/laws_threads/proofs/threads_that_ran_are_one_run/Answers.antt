use Rattle.std.proofs.Common.{false, None, ◌++◌}
use Rattle.laws_threads.specs.OwnMoves.{AreOwnMoves}
use Rattle.laws_threads.proofs.Ran.{ran}
use Rattle.laws_threads.proofs.threads_that_ran_are_one_run.Goals as goal

pub returns : goal.returns
returns g c = λ group early late did.
    ran (λ i moves. AreOwnMoves g.S.ViewStore.load_gives g.S.ViewStore.save_gives g.S.ViewStore.faults g.S.Starts.begin_gives g.S.Kept.holds group i None (λ x. false) moves) group
    (λ first second right none clients taken. c.threads_are_one_run.ensures group first second (c.lists_are_moves.ensures group (first ++ second) (record { replicas = right; no_others = none; clients = clients; taken = taken })))
    (c.one_run_is_one_history.ensures group) early late did
