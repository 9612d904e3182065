use Rattle.std.proofs.Common.{◌≡◌, ◌++◌, [], suc, map, take, drop, length}
use Rattle.std.specs.List.{flat_map}
use Rattle.il_units.specs.Calls.{first_value}
use Rattle.il_units.proofs.calls.push_first_values.Given as goal

abbrev pub invariant-loop-m : goal.invariant-loop-m
invariant-loop-m l = l.lines.items ≡ l.fn.lines.items ++ flat_map (first_value l.f l.left) (take l.m-index l.m-items)
