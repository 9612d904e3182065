use Rattle.std.proofs.Common.{take}
use Rattle.std.specs.List.{flat_map}
use Rattle.plc_figures.specs.Metrics.{failed_line}
use Rattle.plc_figures.specs.Texts.{IsAdded}
use Rattle.plc_figures.proofs.metrics.put_failed.Given as goal

abbrev pub invariant-loop-shown : goal.invariant-loop-shown
invariant-loop-shown l = IsAdded l.initial.out.items (flat_map failed_line (take l.shown-index l.replicas)) l.out.items
