use Rattle.vr_model.specs.Membership.{member}
use Rattle.laws_processes.proofs.Going.{worked}
use Rattle.laws_processes.proofs.worked_starts_go_on.Goals as goal

pub returns : goal.returns
returns g c = λ turns ticks ticks_after inputs inputs_after sent sent_after found left group i did.
    worked g.S.ViewStore.load_gives g.S.ViewStore.save_gives g.S.ViewStore.faults g.S.Kept.holds g.S.Starts.begin_gives (member group i) turns ticks ticks_after inputs inputs_after sent sent_after found left did
