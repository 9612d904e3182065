use Rattle.std.proofs.Common.{arith}
use Rattle.field_page.specs.Metrics.{span_text}
use Rattle.field_cycle.specs.Spans.{bounds}
use Rattle.plc_figures.proofs.Chains.{nothing}
use Rattle.plc_figures.proofs.Numbered.{all, more}
use Rattle.field_page.proofs.metrics.put_spans.Goals as goal

pub loop-place-init : goal.loop-place-init
loop-place-init c = nothing

pub loop-place-preserved : goal.loop-place-preserved
loop-place-preserved c = more (span_text c.args.name.now c.args.counts.now) bounds _ _ (omega arith) c.loop-place.invariant c.in_ok-put_span.ensures

pub returns : goal.returns
returns c = all (span_text c.args.name.now c.args.counts.now) bounds _ c.loop-place-test.false c.loop-place.invariant
