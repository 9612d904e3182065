use Rattle.std.proofs.Common.{◌≡◌, length, ◌∙◌, arith}
use Rattle.plc_status.proofs.Spelling.{scans_put}
use Rattle.plc_status.proofs.status.put_scans.Goals as goal

pub returns : goal.returns
returns c = λ replicas before seven same.
    let long : length c.args.words.now ≡ 78 = omega (arith, c.told-words) in
    scans_put replicas before c.args.scans.now c.args.words.now c.copy_from_slice.new.self c.copy_from_slice-2.new.self seven long same (c.copy_from_slice.ensures.after ∙ c.words.ensures) c.copy_from_slice-2.ensures.after
