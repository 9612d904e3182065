use Rattle.vr_core.specs.StandsFor.{group_of}
use Rattle.vr_replica.specs.Standing.{StandsFor}
use Rattle.vr_world.specs.declared.seat.Seat.{Seat}
use Rattle.vr_world.proofs.Groups.{AreNewBelow}
use Rattle.vr_world.proofs.run.group.Given as goal

abbrev pub invariant-loop-number : goal.invariant-loop-number
invariant-loop-number l = AreNewBelow (λ (seat : Seat). StandsFor seat.replica) (group_of l.config.f l.image l.budget.instructions) l.number l.seats.items
