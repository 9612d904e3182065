use Rattle.plc_status.specs.Journal.{AreNoted}
use Rattle.plc_driver.proofs.group.Group.revive.Given as goal

-- changes were noted
abbrev pub invariant-loop-number : goal.invariant-loop-number
invariant-loop-number g l = AreNoted l.initial.journal l.journal
