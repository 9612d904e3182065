use Rattle.std.proofs.Common.{◌≡◌, take, map}
use Rattle.plc_page.specs.Sources.{point_at, shown}
use Rattle.plc_page.proofs.source.points.Given as goal

abbrev pub invariant-loop-named : goal.invariant-loop-named
invariant-loop-named l = map shown l.points.items ≡ map (point_at l.cells) (take l.named-index l.names)
