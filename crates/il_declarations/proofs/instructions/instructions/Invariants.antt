use Rattle.std.proofs.Common.{◌≡◌, [], drop, map}
use Rattle.il_reader.specs.Grammar.{line}
use Rattle.il_declarations.specs.Walk.{instruct, each}
use Rattle.il_declarations.proofs.instructions.instructions.Given as goal

abbrev pub invariant-loop-written : goal.invariant-loop-written
invariant-loop-written l = each (instruct l.dialect l.known) l.code (drop l.written-index (map line l.lines)) ≡ each (instruct l.dialect l.known) [] (map line l.lines)
