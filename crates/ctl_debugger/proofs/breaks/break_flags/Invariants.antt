use Rattle.std.proofs.Common.{◌≡◌, length, drop, replicate, false}
use Rattle.ctl_debugger.proofs.Flags.{with_breaks}
use Rattle.ctl_debugger.proofs.breaks.break_flags.Given as goal

abbrev pub invariant-loop-position : goal.invariant-loop-position
invariant-loop-position l = record {
  set : with_breaks l.flags.items (drop l.position-index l.positions) ≡ with_breaks (replicate l.fn.len false) l.positions;
  each : length l.flags.items ≡ l.fn.len;
}
