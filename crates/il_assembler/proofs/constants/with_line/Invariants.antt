use Rattle.std.proofs.Common.{◌≡◌, drop}
use Rattle.il_assembler.specs.Walk.{constants_in, literals_in}
use Rattle.il_assembler.proofs.Gathered.{passing_literals}
use Rattle.il_assembler.proofs.constants.with_line.Given as goal

abbrev pub invariant-loop-argument : goal.invariant-loop-argument
invariant-loop-argument l = constants_in l.found (passing_literals (drop l.argument-index l.argument-items)) ≡ constants_in l.fn.found (literals_in l.line l.fn.literal)
