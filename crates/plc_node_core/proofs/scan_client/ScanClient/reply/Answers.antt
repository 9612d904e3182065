use Rattle.std.proofs.Common.{◌≡◌, ◌∙◌, ◌&&◌, [], not, ap, is_some, subst}
use Rattle.io_driver.specs.Driver.{release_by}
use Rattle.vr_client.specs.Client.{answer_by}
use Rattle.vr_model.specs.StandsFor.{body_with, message_with}
use Rattle.plc_machine.specs.Driving.{TakesReply}
use Rattle.plc_machine.proofs.Answers.{was_answered}
use Rattle.plc_node_core.specs.Scanning.{answered_by, released_in}
use Rattle.plc_node_core.proofs.Quieting.{reply_quiet}
use Rattle.plc_node_core.proofs.Releases.{released_back}
use Rattle.plc_node_core.proofs.scan_client.ScanClient.reply.Goals as goal

pub returns-clause-answered : goal.returns-clause-answered
returns-clause-answered c log =
    let before = c.args.self.now.driver in
    let body = body_with log c.args.message.now.body in
    let answered = was_answered before.driver c.on_reply-release.new.self.driver (message_with log c.args.message.now) (c.on_reply-release.ensures.heard log) in
    let is : c.is_answered-is_answered.result ≡ is_some (answer_by before.driver.state body) =
    c.is_answered-is_answered.ensures
    ∙ ap (λ w. w && not c.is_waiting-waits.result) c.is_waiting-waited.ensures
    ∙ ap (λ w. is_some before.driver.state.waits && not w) c.is_waiting-waits.ensures
    ∙ answered in
    c.answered_by.ensures
    ∙ ap (λ r. answered_by r c.is_answered-is_answered.result (is_some c.shown-shown.result)) (c.on_reply-release.ensures.release log)
    ∙ ap (λ a. answered_by (release_by before.driver.state body) a (is_some c.shown-shown.result)) is
    ∙ ap (λ s. answered_by (release_by before.driver.state body) (is_some (answer_by before.driver.state body)) (is_some s)) c.shown-shown.ensures

pub returns-clause-released : goal.returns-clause-released
returns-clause-released c log =
    let before = c.args.self.now.driver in
    let body = body_with log c.args.message.now.body in
    ap released_in (returns-clause-answered c log)
    ∙ released_back (release_by before.driver.state body) (is_some (answer_by before.driver.state body)) (is_some before.shown)

pub returns-clause-shown : goal.returns-clause-shown
returns-clause-shown c log =
    let before = c.args.self.now.driver in
    let body = body_with log c.args.message.now.body in
    subst (λ r. TakesReply r (is_some (answer_by before.driver.state body)) before c.on_reply-release.new.self) (c.on_reply-release.ensures.release log) (c.on_reply-release.ensures.shown log)

pub returns-clause-quiet : goal.returns-clause-quiet
returns-clause-quiet c quiet =
    let before = c.args.self.now.driver in
    let body = body_with [] c.args.message.now.body in
    reply_quiet before c.on_reply-release.new.self (message_with [] c.args.message.now) quiet (c.on_reply-release.ensures.heard [])
    (subst (λ r. TakesReply r (is_some (answer_by before.driver.state body)) before c.on_reply-release.new.self) (c.on_reply-release.ensures.release []) (c.on_reply-release.ensures.shown []))

pub returns-clause-course : goal.returns-clause-course
returns-clause-course c = (c.on_reply-release.ensures.shown []).1
