use Rattle.std.proofs.Common.{◌≡◌, Ok, take}
use Rattle.il_model.specs.Checking.{shape_at}
use Rattle.il_model.specs.Settled.{settled_text}
use Rattle.il_assembler.specs.Walk.{literals_of}
use Rattle.il_assembler.proofs.assembling.literals.Given as goal

abbrev pub invariant-loop-n : goal.invariant-loop-n
invariant-loop-n l = record { types : shape_at (settled_text l.program) l.n ≡ Ok l.types; literals : l.found.items ≡ literals_of (take l.n (settled_text l.program).code) }
