use Rattle.std.proofs.Common.{◌≡◌, ◌∙◌, ◌&&◌, not, ap, refl, is_some}
use Rattle.vr_client.specs.Client.{answer_by}
use Rattle.vr_model.specs.StandsFor.{body_with, message_with}
use Rattle.plc_machine.specs.Driving.{shown_by}
use Rattle.plc_machine.proofs.Answers.{was_answered}
use Rattle.plc_machine.proofs.driver.MachineDriver.on_reply.Goals as goal

pub returns-clause-shown : goal.returns-clause-shown
returns-clause-shown c log =
    let before = c.args.self.now in
    let answered = was_answered before.driver c.on_reply-release.new.self (message_with log c.args.message.now) (c.on_reply-release.ensures.heard log) in
    let is : c.is_answered-is_answered.result ≡ is_some (answer_by before.driver.state (body_with log c.args.message.now.body)) =
    c.is_answered-is_answered.ensures
    ∙ ap (λ w. w && not c.is_waiting-waits.result) c.is_waiting-waited.ensures
    ∙ ap (λ w. is_some before.driver.state.waits && not w) c.is_waiting-waits.ensures
    ∙ answered in (
      c.shown_by-self.ensures
          ∙ ap (λ r. shown_by r c.is_answered-is_answered.result before.submitted before.shown) c.is_some.ensures
          ∙ ap (λ a. shown_by (is_some c.on_reply-release.result) a before.submitted before.shown) is,
      refl,
      refl,
      refl,
    )
