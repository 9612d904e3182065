use Rattle.std.proofs.Common.{ap, decimal}
use Rattle.plc_figures.proofs.Chains.{equally, then}
use Rattle.plc_values.proofs.head.put_break.Goals as goal

pub returns : goal.returns
returns c = then c.in_ok-put_comma.ensures (equally (ap decimal c.from.ensures) c.in_ok-put_number.ensures)
