use Rattle.plc_status.specs.Journal.{AreNoted}
use Rattle.plc_driver.proofs.drive.Drive.run_on.Given as goal

-- changes were noted
abbrev pub invariant-loop : goal.invariant-loop
invariant-loop g l = record {
  can_next : (goal.iterator-loop g).can_next l.iterator';
  finite : (goal.iterator-loop g).is_finite l.iterator';
  noted : AreNoted l.initial.self.journal l.self.journal;
}
