use Rattle.field_page.specs.Metrics.{span_text}
use Rattle.field_cycle.specs.Spans.{bounds}
use Rattle.plc_figures.proofs.Numbered.{texts_before}
use Rattle.plc_figures.specs.Texts.{IsAdded}
use Rattle.field_page.proofs.metrics.put_spans.Given as goal

abbrev pub invariant-loop-place : goal.invariant-loop-place
invariant-loop-place l = IsAdded l.initial.out.items (texts_before (span_text l.name l.counts) bounds l.place) l.out.items
