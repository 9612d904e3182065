use Rattle.std.proofs.Common.{◌<◌, length, get_or, arith}
use Rattle.vr_shown.specs.Showing.{nothing_shown}
use Rattle.plc_status.proofs.Spelling.{replica_read}
use Rattle.plc_status.proofs.status.replica_in.Goals as goal

pub returns : goal.returns
returns c = λ replicas scans seven same.
    let there : c.args.number < length replicas = omega (arith, c.requires) in
    c.from_words.ensures (get_or replicas c.args.number nothing_shown) (replica_read c.args.number replicas scans c.args.words.now c.copy_from_slice.new.self there same c.copy_from_slice.ensures.after)
