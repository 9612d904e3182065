use Rattle.std.proofs.Common.{rules, arith}
use Rattle.std.proofs.lemmas.Grind.{common_steps}
use Rattle.plc_driver.proofs.Noted.{both}
use Rattle.plc_driver.proofs.drive.Drive.run_for.Goals as goal

pub loop-preserved : goal.loop-preserved
loop-preserved g c =
    let released = both c.args.self.now.journal c.loop.self.journal c.release.new.self.journal c.loop.invariant.noted c.release.ensures.noted in record {
      counted = first_of (search rules, grind (arith, common_steps));
      noted = both c.args.self.now.journal c.release.new.self.journal c.crash_in_turn.new.self.journal released c.crash_in_turn.ensures.noted;
    }
