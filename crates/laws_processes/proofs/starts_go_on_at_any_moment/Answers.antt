use Rattle.laws_processes.proofs.Going.{goes_to_the_end, goes_into}
use Rattle.laws_processes.proofs.starts_go_on_at_any_moment.Goals as goal

pub returns-clause-between_turns : goal.returns-clause-between_turns
returns-clause-between_turns g c = λ ticks inputs sent comes begun nonce up now turns is_up did.
    goes_to_the_end g.S.ViewStore.load_gives g.S.ViewStore.save_gives g.S.ViewStore.faults g.S.Kept.holds nonce ticks inputs sent comes begun up now turns is_up did

pub returns-clause-within_the_next : goal.returns-clause-within_the_next
returns-clause-within_the_next g c = λ ticks inputs sent comes begun nonce up now turns last event becomes would_leave result is_up did is steps.
    goes_into g.S.ViewStore.load_gives g.S.ViewStore.save_gives g.S.ViewStore.faults g.S.Kept.holds nonce ticks inputs sent comes begun up now turns last event becomes would_leave result is_up did is steps
