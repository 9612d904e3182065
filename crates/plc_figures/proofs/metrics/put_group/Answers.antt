use Rattle.std.proofs.Common.{ℕ, ap, codes}
use Rattle.plc_figures.specs.Metrics.{gauge_text}
use Rattle.plc_figures.proofs.Chains.{equally, then}
use Rattle.plc_figures.proofs.metrics.put_group.Goals as goal

pub returns : goal.returns
returns c = then c.in_ok-put_family.ensures (then c.in_ok-put_normal.ensures (then c.in_ok-put_family-2.ensures (then c.in_ok-put_starts.ensures (then c.in_ok-put_family-3.ensures (then c.in_ok-put_failed.ensures ((equally (ap (λ (v : ℕ). gauge_text (codes "plc_view") (codes "The greatest view of a replica.") v) c.greatest_view.ensures) c.in_ok-put_gauge.ensures)))))))
