use Rattle.std.proofs.Common.{◌≡◌, ◌++◌, take}
use Rattle.std.specs.List.{flat_map}
use Rattle.il_assembler.specs.Walk.{settled_passing_word}
use Rattle.il_assembler.proofs.encode.put_arguments.Given as goal

abbrev pub invariant-loop-a : goal.invariant-loop-a
invariant-loop-a l = l.out.items ≡ l.fn.out.items ++ flat_map (settled_passing_word l.program l.constants l.kind) (take l.a-index l.arguments)
