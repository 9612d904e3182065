use Rattle.std.proofs.Common.{◌≡◌, ◌++◌, drop}
use Rattle.ctl_debugger.proofs.Flags.{flagged}
use Rattle.ctl_debugger.proofs.breaks.break_positions.Given as goal

abbrev pub invariant-loop-position : goal.invariant-loop-position
invariant-loop-position l = l.positions.items ++ flagged l.position (drop l.position l.flags) ≡ flagged 0 l.flags
