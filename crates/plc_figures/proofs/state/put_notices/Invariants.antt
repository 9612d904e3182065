use Rattle.plc_figures.specs.State.{told_json}
use Rattle.plc_figures.proofs.Numbered.{texts_before}
use Rattle.plc_figures.specs.Texts.{IsAdded}
use Rattle.plc_figures.proofs.state.put_notices.Given as goal

abbrev pub invariant-loop-number : goal.invariant-loop-number
invariant-loop-number l = IsAdded l.initial.out.items (texts_before told_json l.notices l.number) l.out.items
