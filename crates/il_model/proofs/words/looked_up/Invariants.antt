use Rattle.std.proofs.Common.{◌≡◌, drop, map}
use Rattle.il_model.specs.Words.{look}
use Rattle.il_model.proofs.words.looked_up.Given as goal

abbrev pub invariant-loop-word : goal.invariant-loop-word
invariant-loop-word l = look (map (λ e. (e.0.now, e.1, e.2)) (drop l.word-index l.table)) l.text ≡ look (map (λ e. (e.0.now, e.1, e.2)) l.table) l.text
