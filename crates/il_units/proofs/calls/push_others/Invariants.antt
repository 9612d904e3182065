use Rattle.std.proofs.Common.{◌≡◌, ◌++◌, map, drop}
use Rattle.std.specs.List.{flat_map, filter, zip}
use Rattle.il_reader.specs.Grammar.{operand}
use Rattle.il_units.specs.Calls.{other_input, is_input}
use Rattle.il_units.proofs.calls.push_others.Given as goal

abbrev pub invariant-loop-x : goal.invariant-loop-x
invariant-loop-x l = l.lines.items ++ flat_map (other_input l.scope.members.now l.f l.left) (zip (filter is_input l.rest) (map operand (drop l.x-index l.others))) ≡ l.fn.lines.items ++ flat_map (other_input l.scope.members.now l.f l.left) (zip (filter is_input l.members) (map operand l.others))
