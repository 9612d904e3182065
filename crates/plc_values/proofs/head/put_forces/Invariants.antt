use Rattle.plc_figures.proofs.Numbered.{texts_before}
use Rattle.plc_figures.specs.Texts.{IsAdded}
use Rattle.plc_values.specs.Values.{force_json}
use Rattle.plc_values.proofs.head.put_forces.Given as goal

abbrev pub invariant-loop-number : goal.invariant-loop-number
invariant-loop-number l = IsAdded l.initial.out.items (texts_before force_json l.forces l.number) l.out.items
