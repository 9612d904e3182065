use Rattle.std.proofs.Common.{ap}
use Rattle.std.specs.Prelude.{decimal}
use Rattle.field_page.specs.Metrics.{label}
use Rattle.plc_figures.proofs.Chains.{equally, then}
use Rattle.field_page.proofs.metrics.put_figure_line.Goals as goal

pub returns : goal.returns
returns c = then c.in_ok-put_figure_name.ensures (then c.in_ok-put.ensures (then (equally (ap label c.as_slice.ensures.value) c.in_ok-put_within.ensures) (then c.in_ok-put-2.ensures (then (equally (ap decimal c.value_of.ensures) c.in_ok-put_number.ensures) c.in_ok-put-3.ensures))))
