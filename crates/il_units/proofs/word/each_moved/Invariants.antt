use Rattle.std.proofs.Common.{◌≡◌, ◌++◌, [], suc, map, take, drop, length}
use Rattle.il_units.specs.Words.{moved}
use Rattle.il_units.proofs.word.each_moved.Given as goal

abbrev pub invariant-loop-word : goal.invariant-loop-word
invariant-loop-word l = l.found.items ≡ map (moved l.left) (take l.word-index l.words)
