use Rattle.std.proofs.Common.{◌≡◌, ◌+◌, drop}
use Rattle.il_model.specs.Marks.{words_in}
use Rattle.il_model.proofs.capacity.has_more_words.Given as goal

abbrev pub invariant-loop-line : goal.invariant-loop-line
invariant-loop-line l = l.most + words_in (drop l.line-index l.code) ≡ l.left + words_in l.code
