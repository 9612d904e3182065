use Rattle.std.proofs.Common.{◌<◌, length, ◌∙◌, arith}
use Rattle.plc_status.proofs.Spelling.{replica_put}
use Rattle.plc_status.proofs.status.put_replica.Goals as goal

pub returns : goal.returns
returns c = λ replicas scans seven same.
    let there : c.args.number < length replicas = omega (arith, c.requires) in
    replica_put c.args.number replicas scans c.args.shown c.args.words.now c.copy_from_slice.new.self there same (c.copy_from_slice.ensures.after ∙ c.words.ensures)
