use Rattle.std.proofs.Common.{◌≡◌, ◌+◌, refl, arith}
use Rattle.vr_model.specs.Steps.{StartsAgain}
use Rattle.vr_client.specs.Client.{BecomesAt}
use Rattle.plc_machine.proofs.Restarts.{one_start_more, waits_for_nothing}
use Rattle.plc_machine.proofs.driver.MachineDriver.give_up.Goals as goal

pub returns-clause-given_up : goal.returns-clause-given_up
returns-clause-given_up c =
    let becomes : BecomesAt c.args.self.now.driver StartsAgain c.start_again.new.self =
    c.start_again.ensures.again c.if-not-start_again.false in
    let more = one_start_more c.args.self.now.driver c.start_again.new.self becomes in
    record {
      waits = waits_for_nothing c.args.self.now.driver c.start_again.new.self becomes;
      restarts = grind (arith, more, c.in-Some.ensures);
      course = refl;
      pace = refl;
      submitted = refl;
      shown = refl;
    }
