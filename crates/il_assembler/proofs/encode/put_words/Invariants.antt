use Rattle.std.proofs.Common.{◌≡◌, ◌++◌, drop}
use Rattle.il_assembler.specs.Walk.{settled_words}
use Rattle.il_assembler.proofs.encode.put_words.Given as goal

abbrev pub invariant-loop-n : goal.invariant-loop-n
invariant-loop-n l = l.out.items ++ settled_words l.program l.constants (drop l.n l.code) (drop l.n l.literals) ≡ l.fn.out.items ++ settled_words l.program l.constants l.code l.literals
