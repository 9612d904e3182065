use Rattle.std.proofs.Common.{◌≡◌, ◌+◌, length}
use Rattle.plc_status.specs.Journal.{AreNoted}
use Rattle.plc_driver.proofs.drive.Drive.run_for.Given as goal

-- each scan so far was released, and changes were noted
abbrev pub invariant-loop : goal.invariant-loop
invariant-loop g l = record {
  counted : length l.self.writer ≡ length l.initial.self.writer + l.counter;
  noted : AreNoted l.initial.self.journal l.self.journal;
}
