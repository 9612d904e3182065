use Rattle.std.proofs.Common.{subst}
use Rattle.std.specs.Prelude.{MatchBool}
use Rattle.ctl_machine.specs.Kept.{HasBlock, HasNoBlock}
use Rattle.ctl_machine.proofs.Restoring.{lost_at}
use Rattle.ctl_machine.proofs.shape.have_states.Goals as goal

pub returns-then-not-has_state : goal.returns-then-not-has_state
returns-then-not-has_state c =
    lost_at c.args.instances.now c.loop-x.x-index c.x-item.result c.loop-x-test.true c.x-item.is
    (subst (λ b. MatchBool b (HasBlock c.x-item.result) (HasNoBlock c.x-item.result)) c.if-not-has_state.true c.has_state.ensures)
