use Rattle.std.proofs.Common.{ℕ, List, ap}
use Rattle.field_page.specs.Metrics.{rounds_of}
use Rattle.plc_figures.proofs.Chains.{equally}
use Rattle.field_page.proofs.metrics.put_rounds_by.Goals as goal

pub returns : goal.returns
returns c = equally (ap (λ (n : List ℕ). rounds_of n c.args.device.now.spans.counts c.args.device.now.spans.sum) c.as_slice.ensures.value) c.in_ok-put_rounds_of.ensures
