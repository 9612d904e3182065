use Rattle.std.proofs.Common.{◌≡◌, take}
use Rattle.ctl_model.specs.Forces.{overlay}
use Rattle.ctl_scan.proofs.forces.lay.Given as goal

abbrev pub invariant-loop-i : goal.invariant-loop-i
invariant-loop-i g l = l.cells ≡ overlay (take l.i l.mask) l.fn.cells
