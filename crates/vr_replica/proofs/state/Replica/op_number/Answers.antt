use Rattle.std.proofs.Common.{◌∙◌}
use Rattle.vr_replica.proofs.LastScan.{size_of}
use Rattle.vr_replica.proofs.state.Replica.op_number.Goals as goal

pub returns : goal.returns
returns c = λ m r st. c.op_number.ensures.value ∙ size_of c.args.self.now m r st
