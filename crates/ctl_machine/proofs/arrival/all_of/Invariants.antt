use Rattle.std.proofs.Common.{◌≡◌, take, true}
use Rattle.ctl_machine.proofs.Zipped.{zipped}
use Rattle.ctl_machine.proofs.Shapes.{is_held}
use Rattle.ctl_machine.proofs.arrival.all_of.Given as goal

abbrev pub invariant-loop-i : goal.invariant-loop-i
invariant-loop-i l = zipped is_held (take l.i l.deferred) (take l.i l.held) ≡ true
