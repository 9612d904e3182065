use Rattle.plc_figures.proofs.Chains.{then}
use Rattle.field_page.proofs.metrics.put_devices.Goals as goal

pub returns : goal.returns
returns c = then c.in_ok-put_figure.ensures (then c.in_ok-put_figure-2.ensures (then c.in_ok-put_figure-3.ensures (then c.in_ok-put_figure-4.ensures (then c.in_ok-put_figure-5.ensures c.in_ok-put_figure-6.ensures))))
