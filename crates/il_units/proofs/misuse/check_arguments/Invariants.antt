use Rattle.std.proofs.Common.{◌≡◌, ◌++◌, [], suc, map, take, drop, length}
use Rattle.il_reader.specs.Grammar.{argument}
use Rattle.il_units.specs.Misuse.{arguments_fault}
use Rattle.il_units.proofs.misuse.check_arguments.Given as goal

abbrev pub invariant-loop-i : goal.invariant-loop-i
invariant-loop-i l = arguments_fault l.block (map argument (take l.i l.args)) (map argument (drop l.i l.args)) ≡ arguments_fault l.block [] (map argument l.args)
