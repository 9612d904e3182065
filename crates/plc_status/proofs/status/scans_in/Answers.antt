use Rattle.std.proofs.Common.{◌≡◌, length, arith}
use Rattle.plc_status.proofs.Spelling.{scans_read}
use Rattle.plc_status.proofs.status.scans_in.Goals as goal

pub returns : goal.returns
returns c = λ replicas scans seven placed same.
    let long : length c.args.words.now ≡ 78 = omega (arith, c.told-words) in
    let read = scans_read replicas scans c.args.words.now c.copy_from_slice.new.self c.copy_from_slice-2.new.self seven long same c.copy_from_slice.ensures.after c.copy_from_slice-2.ensures.after in
    c.from_words.ensures scans placed read.0 read.1
