use Rattle.std.proofs.Common.{◌≡◌, ◌++◌, [], suc, map, take, drop, length}
use Rattle.std.specs.List.{flat_map}
use Rattle.il_reader.specs.Grammar.{argument}
use Rattle.il_units.specs.Calls.{output_of}
use Rattle.il_units.proofs.calls.push_outputs.Given as goal

abbrev pub invariant-loop-a : goal.invariant-loop-a
invariant-loop-a l = l.lines.items ≡ l.fn.lines.items ++ flat_map (output_of l.scope.members.now l.block l.front) (map argument (take l.a-index l.args))
