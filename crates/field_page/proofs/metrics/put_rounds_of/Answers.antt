use Rattle.std.proofs.Common.{ℕ, ap}
use Rattle.field_page.specs.Metrics.{count_line, none_longer}
use Rattle.plc_figures.proofs.Chains.{equally, then}
use Rattle.field_page.proofs.metrics.put_rounds_of.Goals as goal

pub returns : goal.returns
returns c = then c.in_ok-put_spans.ensures (then (equally (ap (λ (n : ℕ). none_longer c.args.name.now n) c.sum_of-count.ensures) c.in_ok-put_none_longer.ensures) (then c.in_ok-put_sum.ensures (equally (ap (λ (n : ℕ). count_line c.args.name.now n) c.sum_of-count.ensures) c.in_ok-put_count.ensures)))
