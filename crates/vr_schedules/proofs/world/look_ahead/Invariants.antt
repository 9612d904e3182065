use Rattle.std.proofs.Common.{◌≡◌, ◌≤◌, ◌++◌, drop, take}
use Rattle.il_model.specs.declared.command.Command.{Command}
use Rattle.vr_model.specs.Replicas.{ReplicaState}
use Rattle.vr_model.specs.StandsFor.{requests_of}
use Rattle.vr_model.specs.Membership.{Membership}
use Rattle.vr_schedules.proofs.world.look_ahead.Given as goal

abbrev pub invariant-loop-place : goal.invariant-loop-place
invariant-loop-place g l =
    (l.first ≤ l.place)
    × ((m : Membership) (r : ReplicaState Command) → g.M.Member.StandsFor l.member m r → requests_of l.order.items ≡ requests_of l.initial.order.items ++ drop l.first (take l.place r.log))
