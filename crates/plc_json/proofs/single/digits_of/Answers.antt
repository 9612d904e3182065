use Rattle.std.proofs.Common.{arith}
use Rattle.plc_json.proofs.Changes.{digits_back}
use Rattle.plc_json.proofs.single.digits_of.Goals as goal

pub returns : goal.returns
returns c = digits_back c.args.bytes.now c.encode.result (λ i. let f = c.type_inv.bytes i in omega arith) c.encode.ensures
