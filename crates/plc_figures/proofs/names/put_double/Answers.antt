use Rattle.std.proofs.Common.{ap, ◌∙◌, arith, decimal}
use Rattle.il_lister.proofs.Numbers.{decimal-is}
use Rattle.plc_figures.proofs.Chains.{equally, then}
use Rattle.plc_figures.proofs.names.put_double.Goals as goal

pub returns : goal.returns
returns c =
    let number = ap decimal c.from.ensures ∙ decimal-is c.args.number (omega arith) in
    then c.in_ok-put.ensures (then (equally c.area_letter.ensures c.in_ok-put-2.ensures) (then c.in_ok-put-3.ensures (equally number c.in_ok-put_number.ensures)))
