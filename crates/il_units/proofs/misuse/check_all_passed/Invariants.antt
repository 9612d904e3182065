use Rattle.std.proofs.Common.{◌≡◌, ◌++◌, [], suc, map, take, drop, length}
use Rattle.il_reader.specs.Grammar.{argument}
use Rattle.il_units.specs.Expansion.{scope_text}
use Rattle.il_units.specs.Misuse.{first_fault, passed_fault}
use Rattle.il_units.proofs.misuse.check_all_passed.Given as goal

abbrev pub invariant-loop-a : goal.invariant-loop-a
invariant-loop-a l = first_fault (passed_fault (scope_text l.scope) l.block) (map argument (drop l.a-index l.args)) ≡ first_fault (passed_fault (scope_text l.scope) l.block) (map argument l.args)
