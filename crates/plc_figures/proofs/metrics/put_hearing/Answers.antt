use Rattle.std.proofs.Common.{ℕ, ap, codes}
use Rattle.plc_figures.specs.Metrics.{gauge_text}
use Rattle.plc_figures.proofs.Chains.{equally, then}
use Rattle.plc_figures.proofs.metrics.put_hearing.Goals as goal

pub returns : goal.returns
returns c = then (equally (ap (λ (v : ℕ). gauge_text (codes "plc_machines_connected") (codes "Other machines of the group that this machine hears.") v) c.from.ensures) c.in_ok-put_gauge.ensures) (equally (ap (λ (v : ℕ). gauge_text (codes "plc_majority") (codes "Whether this machine hears enough others for a majority with it.") v) c.flag.ensures) c.in_ok-put_gauge-2.ensures)
