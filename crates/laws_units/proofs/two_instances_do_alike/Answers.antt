use Rattle.laws_units.proofs.Placed.{bodies_alike}
use Rattle.laws_units.proofs.two_instances_do_alike.Goals as goal

pub returns : goal.returns
returns c = bodies_alike
