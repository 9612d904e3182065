use Rattle.vr_model.specs.World.{down}
use Rattle.vr_model.specs.Membership.{member}
use Rattle.vr_core.specs.StandsFor.{group_of}
use Rattle.vr_replica.proofs.Acting.{stands_down}
use Rattle.vr_replica.proofs.state.Replica.down.Goals as goal

pub returns : goal.returns
returns c =
    let config = c.args.config in
    λ r. stands_down (record { core = c.in_ok-down.field-0 }) (member (group_of config.f c.args.image c.args.budget.instructions) c.args.number) (down r) (c.in_ok-down.ensures r)
