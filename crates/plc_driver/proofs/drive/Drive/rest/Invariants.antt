use Rattle.std.proofs.Common.{◌≡◌}
use Rattle.plc_status.specs.Journal.{AreNoted}
use Rattle.plc_driver.proofs.drive.Drive.rest.Given as goal

-- nothing is published, and changes were noted
abbrev pub invariant-loop : goal.invariant-loop
invariant-loop g l = record {
  can_next : (goal.iterator-loop g).can_next l.iterator';
  finite : (goal.iterator-loop g).is_finite l.iterator';
  same : l.self.writer ≡ l.initial.self.writer;
  noted : AreNoted l.initial.self.journal l.self.journal;
}
