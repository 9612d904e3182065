use Rattle.vr_replica.proofs.Dispatched.{not_from_client}
use Rattle.vr_replica.proofs.rules.from_client.Goals as goal

pub returns : goal.returns
returns c = λ l. not_from_client c.args.core.now l c.args.body c.new.result c.in_default.not-Request c.new.ensures.items
