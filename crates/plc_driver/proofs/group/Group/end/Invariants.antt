use Rattle.std.proofs.Common.{◌≡◌}
use Rattle.plc_driver.proofs.group.Group.end.Given as goal

-- nothing was noted yet
abbrev pub invariant-loop : goal.invariant-loop
invariant-loop g l = l.journal ≡ l.initial.journal
