use Rattle.std.proofs.Common.{take}
use Rattle.std.specs.List.{flat_map}
use Rattle.field_page.specs.Metrics.{figure_line}
use Rattle.plc_figures.specs.Texts.{IsAdded}
use Rattle.field_page.proofs.metrics.put_figure_lines.Given as goal

abbrev pub invariant-loop-device : goal.invariant-loop-device
invariant-loop-device l = IsAdded l.initial.out.items (flat_map (figure_line l.figure) (take l.device-index l.devices)) l.out.items
