use Rattle.std.proofs.Common.{ℕ, ap}
use Rattle.plc_figures.specs.Metrics.{totals_text}
use Rattle.plc_figures.proofs.Chains.{equally, then}
use Rattle.plc_figures.proofs.metrics.put_intervals.Goals as goal

pub returns : goal.returns
returns c = then c.in_ok-put_family.ensures (then c.in_ok-put_buckets.ensures ((equally (ap (λ (n : ℕ). totals_text c.args.scans.now.interval_sum n) c.sum_of-count.ensures) c.in_ok-put_totals.ensures)))
