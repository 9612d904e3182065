use Rattle.std.proofs.Common.{arith}
use Rattle.vr_wire.proofs.Fronts.{shows}
use Rattle.vr_wire.proofs.front.front_of.Goals as goal

pub returns : goal.returns
returns c = shows (λ x. x.0) (λ x. x.1.now) c.read_front.result c.args.bytes.now (λ i. omega (arith, c.type_inv.bytes i)) c.read_front.ensures
