use Rattle.std.proofs.Common.{◌≡◌, ◌++◌, List}
use Rattle.il_loader.specs.declared.word.Word.{Word}
use Rattle.il_loader.specs.Tables.{lines_of}
use Rattle.il_loader.proofs.Lines.{lines_with}
use Rattle.il_loader.proofs.grouping.lines_of.Given as goal

abbrev pub invariant-loop-word : goal.invariant-loop-word
invariant-loop-word l = (more : List Word) → l.lines.items ++ lines_with l.instances l.last more ≡ lines_of l.instances (l.yielded ++ more)
