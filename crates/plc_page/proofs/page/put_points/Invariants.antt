use Rattle.std.proofs.Common.{take}
use Rattle.std.specs.List.{flat_map}
use Rattle.plc_page.specs.Page.{point_line}
use Rattle.plc_figures.specs.Texts.{IsAdded}
use Rattle.plc_page.proofs.page.put_points.Given as goal

abbrev pub invariant-loop-point : goal.invariant-loop-point
invariant-loop-point l = IsAdded l.initial.out.items (flat_map point_line (take l.point-index l.points)) l.out.items
