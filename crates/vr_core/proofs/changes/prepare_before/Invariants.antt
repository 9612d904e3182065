use Rattle.std.proofs.Common.{◌≤◌, length, reverse}
use Rattle.vr_core.proofs.Readying.{AreReadyFrom}
use Rattle.vr_core.proofs.changes.prepare_before.Given as goal

abbrev pub invariant-loop-n : goal.invariant-loop-n
invariant-loop-n l = record { within : l.n ≤ length l.entries; ready : AreReadyFrom l.entries l.fn.ready l.n (reverse l.changes.items) }

abbrev pub decreases-loop-n : goal.decreases-loop-n
decreases-loop-n l = l.n
