use Rattle.plc_figures.specs.State.{exception_json}
use Rattle.plc_figures.proofs.Numbered.{texts_before}
use Rattle.plc_figures.specs.Texts.{IsAdded}
use Rattle.plc_figures.proofs.state.put_exceptions.Given as goal

abbrev pub invariant-loop-place : goal.invariant-loop-place
invariant-loop-place l = IsAdded l.initial.out.items (texts_before exception_json l.counts l.place) l.out.items
