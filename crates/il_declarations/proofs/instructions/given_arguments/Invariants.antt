use Rattle.std.proofs.Common.{◌≡◌, [], drop, map}
use Rattle.il_reader.specs.Grammar.{argument}
use Rattle.il_declarations.specs.Walk.{pushed_argument, each}
use Rattle.il_declarations.proofs.instructions.given_arguments.Given as goal

abbrev pub invariant-loop-written : goal.invariant-loop-written
invariant-loop-written l = each (pushed_argument l.dialect l.known) l.found.items (drop l.written-index (map argument l.given)) ≡ each (pushed_argument l.dialect l.known) [] (map argument l.given)
