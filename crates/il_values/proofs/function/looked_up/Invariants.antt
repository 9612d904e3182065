use Rattle.std.proofs.Common.{◌≡◌, drop, map}
use Rattle.il_values.specs.Functions.{look_function}
use Rattle.il_values.proofs.function.looked_up.Given as goal

abbrev pub invariant-loop-word : goal.invariant-loop-word
invariant-loop-word l = look_function (map (λ e. (e.0.now, e.1)) (drop l.word-index l.table)) l.text ≡ look_function (map (λ e. (e.0.now, e.1)) l.table) l.text
