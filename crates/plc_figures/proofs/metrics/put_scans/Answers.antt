use Rattle.std.proofs.Common.{ℕ, ap, codes}
use Rattle.plc_figures.specs.Metrics.{gauge_text}
use Rattle.plc_figures.proofs.Chains.{equally, then}
use Rattle.plc_figures.proofs.metrics.put_scans.Goals as goal

pub returns : goal.returns
returns c = then c.in_ok-put_scan_counts.ensures (then c.in_ok-put_intervals.ensures (then c.in_ok-put_age.ensures (then (equally (ap (λ (v : ℕ). gauge_text (codes "plc_held") (codes "Whether the last scan was held at a breakpoint.") v) c.held_number.ensures) c.in_ok-put_gauge.ensures) ((equally (ap (λ (v : ℕ). gauge_text (codes "plc_stopped") (codes "Whether the last scan stopped at a fault.") v) c.stopped_number.ensures) c.in_ok-put_gauge-2.ensures)))))
