use Rattle.std.proofs.Common.{◌≡◌, ◌++◌, [], suc, map, take, drop, length}
use Rattle.il_units.specs.Expansion.{with_pieces, piece_of}
use Rattle.il_units.proofs.expansion.Expansion.put_words.Given as goal

abbrev pub invariant-loop-word : goal.invariant-loop-word
invariant-loop-word l = l.out ≡ with_pieces l.fn.self (map piece_of (take l.word-index l.words))
