use Rattle.std.proofs.Common.{◌/◌, ◌%◌, ap, ◌∙◌, arith, decimal}
use Rattle.il_lister.proofs.Numbers.{decimal-is}
use Rattle.plc_figures.proofs.Chains.{equally, then}
use Rattle.plc_figures.proofs.names.put_bit.Goals as goal

pub returns : goal.returns
returns c =
    let byte = ap decimal c.from.ensures ∙ decimal-is (c.args.number / 8) (omega arith) in
    let bit = ap decimal c.from-2.ensures ∙ decimal-is (c.args.number % 8) (omega arith) in
    then c.in_ok-put.ensures (then (equally c.area_letter.ensures c.in_ok-put-2.ensures) (then c.in_ok-put-3.ensures (then (equally byte c.in_ok-put_number.ensures) (then c.in_ok-put-4.ensures (equally bit c.in_ok-put_number-2.ensures)))))
