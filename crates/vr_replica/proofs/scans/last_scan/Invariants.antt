use Rattle.std.proofs.Common.{◌≡◌, ◌≤◌, length, drop, None}
use Rattle.vr_model.specs.Checkpoints.{requests_of}
use Rattle.vr_replica.specs.Scans.{last_scan_of}
use Rattle.vr_replica.proofs.scans.last_scan.Given as goal

abbrev pub invariant-loop-n : goal.invariant-loop-n
invariant-loop-n l = record { within : l.n ≤ length l.entries; none : last_scan_of (requests_of (drop l.n l.entries)) ≡ None }

abbrev pub decreases-loop-n : goal.decreases-loop-n
decreases-loop-n l = l.n
