use Rattle.std.proofs.Common.{refl}
use Rattle.plc_driver.proofs.Noted.{none, one}
use Rattle.plc_driver.proofs.drive.Drive.note_halt.Goals.{then-ne, else-ne}
use Rattle.plc_driver.proofs.drive.Drive.note_halt.Goals as goal

pub returns-clause-changes : goal.returns-clause-changes
returns-clause-changes g c = elim c.if-ne.branch [
  | then-ne w ↦ rw w.self-is (one w.halted.result c.args.self.now.journal _ w.put.ensures)
  | else-ne w ↦ rw w.self-is (none c.args.self.now.journal c.args.self.now.journal refl)
]
