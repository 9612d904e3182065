use Rattle.std.proofs.Common.{◌≡◌, ◌++◌, [], suc, map, take, drop, length}
use Rattle.il_units.specs.Words.{placed, placing}
use Rattle.il_units.proofs.word.each_placed.Given as goal

abbrev pub invariant-loop-word : goal.invariant-loop-word
invariant-loop-word l = l.found.items ≡ map (placed (placing l.at)) (take l.word-index l.words)
