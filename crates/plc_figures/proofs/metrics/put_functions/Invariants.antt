use Rattle.plc_figures.specs.Metrics.{function_line}
use Rattle.plc_figures.proofs.Numbered.{texts_before}
use Rattle.plc_figures.specs.Texts.{IsAdded}
use Rattle.plc_figures.proofs.metrics.put_functions.Given as goal

abbrev pub invariant-loop-place : goal.invariant-loop-place
invariant-loop-place l = IsAdded l.initial.out.items (texts_before function_line l.counts l.place) l.out.items
