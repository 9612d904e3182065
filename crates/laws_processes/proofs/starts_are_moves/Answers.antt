use Rattle.laws_threads.specs.CodeMoves.{runs, given_with}
use Rattle.laws_threads.specs.MachineMoves.{counted_with}
use Rattle.laws_processes.proofs.Starting.{own, machine}
use Rattle.laws_processes.proofs.starts_are_moves.Goals as goal

pub returns-clause-threads : goal.returns-clause-threads
returns-clause-threads g c = λ group i seat given q found left nonce starts moves start as_left unused on.
    (start, as_left, unused, own g.S.ViewStore.load_gives g.S.ViewStore.save_gives g.S.ViewStore.faults g.S.Starts.begin_gives g.S.Kept.holds group i (runs q left nonce) (given_with given nonce) moves on)

pub returns-clause-machines : goal.returns-clause-machines
returns-clause-machines g c = λ group i seat counted q found left nonce starts moves start as_left rises on.
    (start, as_left, rises, machine g.S.ViewStore.load_gives g.S.ViewStore.save_gives g.S.ViewStore.faults g.S.Starts.begin_gives g.S.Kept.holds group i g.S.Judged.is_first (runs q left nonce) (counted_with counted starts) moves on)
