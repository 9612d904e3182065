use Rattle.std.proofs.Common.{◌≡◌, [], drop}
use Rattle.il_assembler.specs.Walk.{constants_in, all_literals}
use Rattle.il_assembler.proofs.constants.constants_of.Given as goal

abbrev pub invariant-loop-n : goal.invariant-loop-n
invariant-loop-n l = constants_in l.found (all_literals (drop l.n l.code) (drop l.n l.literals)) ≡ constants_in [] (all_literals l.code l.literals)
