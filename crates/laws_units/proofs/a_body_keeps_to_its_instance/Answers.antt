use Rattle.laws_units.proofs.Placed.{body_keeps}
use Rattle.laws_units.proofs.a_body_keeps_to_its_instance.Goals as goal

pub returns : goal.returns
returns c = body_keeps
