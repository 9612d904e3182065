use Rattle.std.proofs.Common.{◌≡◌, ◌∙◌, ap, is_some}
use Rattle.std.proofs.lemmas.Result.{on_ok_weaker}
use Rattle.io_driver.specs.Driver.{release_by}
use Rattle.vr_client.specs.Client.{answer_by}
use Rattle.vr_model.specs.StandsFor.{body_with}
use Rattle.plc_node_core.specs.Scanning.{released_in}
use Rattle.plc_node_core.proofs.Releases.{released_back}
use Rattle.plc_member.proofs.Releases.{traced_back}
use Rattle.plc_member.proofs.drive.Drive.take.Goals as goal

pub returns-clause-traced : goal.returns-clause-traced
returns-clause-traced g c going =
    on_ok_weaker c.release.result (λ told log.
    let body = body_with log c.args.message.now.body in
    let driver = c.args.self.now.node.role.scans.driver in
    let release = release_by driver.driver.state body in
    let released : c.released.result ≡ release =
    c.released.ensures ∙ ap released_in (c.reply-answered.ensures.answered going log)
    ∙ released_back release (is_some (answer_by driver.driver.state body)) (is_some driver.shown) in
    traced_back c.released.result release released
    c.args.self.now.tracer.number c.count.new.self.tracer.number c.args.self.now.tracer.epoch c.count.new.self.tracer.epoch
    c.count.ensures.traced.0 c.count.ensures.traced.1
    c.args.self.now.tracer.trace c.count.new.self.tracer.trace c.release.new.self.tracer.trace c.count.ensures.traced.2
    body (told log)) c.release.ensures.traced
