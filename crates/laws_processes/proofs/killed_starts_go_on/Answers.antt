use Rattle.vr_model.specs.Membership.{member}
use Rattle.laws_processes.proofs.Going.{killed_coming_up, killed_serving}
use Rattle.laws_processes.proofs.killed_starts_go_on.Goals as goal

pub returns-clause-coming_up : goal.returns-clause-coming_up
returns-clause-coming_up g c = λ turns ticks ticks_after inputs inputs_after sent sent_after found left group i nonce did is.
    killed_coming_up g.S.ViewStore.load_gives g.S.ViewStore.save_gives g.S.ViewStore.faults g.S.Kept.holds g.S.Starts.begin_gives (member group i) turns ticks ticks_after inputs inputs_after sent sent_after found left did nonce is

pub returns-clause-served : goal.returns-clause-served
returns-clause-served g c = λ turns ticks ticks_after inputs inputs_after sent sent_after found left group i did early later last event are is.
    killed_serving g.S.ViewStore.load_gives g.S.ViewStore.save_gives g.S.ViewStore.faults g.S.Kept.holds g.S.Starts.begin_gives (member group i) turns ticks ticks_after inputs inputs_after sent sent_after found left did early later last event are is
