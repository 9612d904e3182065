use Rattle.plc_figures.specs.State.{replica_json}
use Rattle.plc_figures.proofs.Numbered.{texts_before}
use Rattle.plc_figures.specs.Texts.{IsAdded}
use Rattle.plc_figures.proofs.state.put_replicas.Given as goal

abbrev pub invariant-loop-place : goal.invariant-loop-place
invariant-loop-place l = IsAdded l.initial.out.items (texts_before replica_json l.replicas l.place) l.out.items
