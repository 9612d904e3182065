use Rattle.std.proofs.Common.{◌≡◌, ◌++◌, drop, string_bytes}
use Rattle.std.specs.List.{flat_map}
use Rattle.plc_group.specs.Lines.{exposed_line}
use Rattle.plc_group.proofs.exposed.exposed_lines.Given as goal

abbrev pub invariant-loop-place : goal.invariant-loop-place
invariant-loop-place l = string_bytes l.lines ++ flat_map (exposed_line l.has_key l.has_list) (drop l.place-index l.place-items) ≡ flat_map (exposed_line l.has_key l.has_list) l.place-items
