use Rattle.laws_processes.proofs.Starting.{joined}
use Rattle.laws_processes.proofs.machine_moves_join.Goals as goal

pub returns : goal.returns
returns g c = λ group i seat counted early late a b. joined g.S.ViewStore.load_gives g.S.ViewStore.save_gives g.S.ViewStore.faults g.S.Starts.begin_gives g.S.Kept.holds group i g.S.Judged.is_first early late seat counted a b
