use Rattle.plc_figures.proofs.Numbered.{texts_before}
use Rattle.plc_figures.specs.Texts.{IsAdded}
use Rattle.plc_values.specs.Values.{break_json}
use Rattle.plc_values.proofs.head.put_breaks.Given as goal

abbrev pub invariant-loop-number : goal.invariant-loop-number
invariant-loop-number l = IsAdded l.initial.out.items (texts_before break_json l.positions l.number) l.out.items
