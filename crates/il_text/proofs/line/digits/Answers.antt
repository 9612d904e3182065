use Rattle.std.proofs.Common.{arith}
use Rattle.std.proofs.Output.{has_written_of_eq}
use Rattle.il_text.proofs.HexTexts.{two_bytes}
use Rattle.il_text.proofs.line.digits.Goals as goal

pub returns : goal.returns
returns g c = λ plain ok.
    let h = rw (c.laid_out.ensures, c.laid_out-2.ensures, c.in_radix.ensures, c.in_radix-2.ensures) at c.write.ensures.writes in
    has_written_of_eq g.W.Write.write_str_gives _ _ _ _ (two_bytes c.args.bits (omega arith)) (h plain ok)
