use Rattle.std.proofs.Common.{◌≡◌, Ok}
use Rattle.il_model.specs.Checking.{shape_at}
use Rattle.ctl_machine.proofs.arrival.types_at.Given as goal

abbrev pub invariant-loop-i : goal.invariant-loop-i
invariant-loop-i l = shape_at l.image l.i ≡ Ok l.types
