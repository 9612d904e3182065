use Rattle.std.proofs.Common.{◌≡◌, ◌++◌, [], suc, map, take, drop, length}
use Rattle.il_reader.specs.Grammar.{argument}
use Rattle.il_units.specs.Calls.{given_words}
use Rattle.il_units.proofs.calls.all_given.Given as goal

abbrev pub invariant-loop-a : goal.invariant-loop-a
invariant-loop-a l = l.found.items ≡ given_words l.scope.members.now l.block (map argument (take l.a-index l.args))
