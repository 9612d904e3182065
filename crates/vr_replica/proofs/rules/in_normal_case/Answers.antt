use Rattle.std.proofs.Common.{rules}
use Rattle.vr_model.specs.StandsFor.{body_with}
use Rattle.vr_replica.proofs.Dispatched.{not_a_sender}
use Rattle.vr_replica.proofs.rules.in_normal_case.Goals as goal

pub returns-in-Request : goal.returns-in-Request
returns-in-Request c = λ l. not_a_sender c.args.core.now c.args.sender (body_with l c.args.body) c.new.result (λ w r. search rules) c.new.ensures.items
