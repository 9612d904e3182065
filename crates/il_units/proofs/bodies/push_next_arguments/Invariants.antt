use Rattle.std.proofs.Common.{◌≡◌, ◌++◌, [], suc, map, take, drop, length}
use Rattle.std.specs.List.{flat_map}
use Rattle.il_reader.specs.Grammar.{argument}
use Rattle.il_units.specs.Expansion.{next_argument_words}
use Rattle.il_units.proofs.bodies.push_next_arguments.Given as goal

abbrev pub invariant-loop-a : goal.invariant-loop-a
invariant-loop-a l = l.words.items ≡ l.fn.words.items ++ flat_map (next_argument_words l.scope.members.now) (map argument (take l.a-index l.args))
