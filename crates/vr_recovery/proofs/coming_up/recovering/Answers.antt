use Rattle.std.proofs.Common.{refl, subst}
use Rattle.il_model.specs.Program.{Program}
use Rattle.vr_model.specs.World.{first_replica}
use Rattle.vr_model.specs.Membership.{member}
use Rattle.vr_core.specs.StandsFor.{group_of, StandsFor}
use Rattle.vr_recovery.proofs.Restarting.{up_again}
use Rattle.vr_recovery.proofs.coming_up.recovering.Goals as goal

pub returns : goal.returns
returns c =
    let core = c.args.core.now in
    up_again core c.in_ok-begun.begun _ c.args.stored_view c.args.nonce
    (subst (λ (Q : Program). StandsFor c.in_ok-begun.begun (member (group_of core.config.f Q core.budget.instructions) core.number) first_replica) c.in_ok-image.ensures c.in_ok-begun.ensures)
    refl c.in_ok-responses.ensures.items
