use Rattle.vr_wire.proofs.LogFormats.{client_found}
use Rattle.vr_wire.proofs.request.client_of.Goals as goal

pub returns : goal.returns
returns c = client_found c.args.number c.new.result c.new.ensures.in_range c.new.ensures.value
