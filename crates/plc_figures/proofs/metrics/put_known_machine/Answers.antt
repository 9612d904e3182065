use Rattle.std.proofs.Common.{ℕ, ap, codes}
use Rattle.plc_figures.specs.Metrics.{gauge_text}
use Rattle.plc_figures.proofs.Chains.{equally, then}
use Rattle.plc_figures.proofs.metrics.put_known_machine.Goals as goal

pub returns : goal.returns
returns c = then (equally (ap (λ (v : ℕ). gauge_text (codes "plc_driving") (codes "Whether this machine drives: its scans are the group's, and it shows outputs.") v) c.flag.ensures) c.in_ok-put_gauge.ensures) (then c.in_ok-put_gauge-2.ensures (then c.in_ok-put_hearing.ensures c.in_ok-put_counter.ensures))
