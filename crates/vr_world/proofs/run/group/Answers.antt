use Rattle.std.proofs.Common.{subst}
use Rattle.vr_model.specs.World.{first_replica}
use Rattle.vr_model.specs.Membership.{member}
use Rattle.vr_core.specs.StandsFor.{group_of}
use Rattle.vr_replica.specs.Standing.{StandsFor}
use Rattle.vr_world.specs.declared.seat.Seat.{Seat}
use Rattle.vr_world.proofs.Groups.{one_more_member}
use Rattle.vr_world.proofs.run.group.Goals as goal

pub loop-number-preserved : goal.loop-number-preserved
loop-number-preserved c =
    one_more_member (λ (seat : Seat). StandsFor seat.replica) (group_of c.args.config.f c.args.image.now c.args.budget.instructions) c.loop-number.number c.loop-number.seats.items c.push.new.self.items (record { replica = c.in_ok-replica.replica })
    c.loop-number.invariant c.in_ok-push.ensures.items
    (subst (λ Q. StandsFor c.in_ok-replica.replica (member (group_of c.args.config.f Q c.args.budget.instructions) c.loop-number.number) first_replica) c.in_ok-copy.ensures c.in_ok-replica.ensures)
