use Rattle.std.proofs.Common.{◌≡◌, ◌+◌, drop, false}
use Rattle.std.specs.Option.{option_map}
use Rattle.il_loader.specs.Judging.{stray_from}
use Rattle.il_loader.proofs.judging.stray_word.Given as goal

abbrev pub invariant-loop-n : goal.invariant-loop-n
invariant-loop-n l = option_map (λ k. l.n + k) (stray_from l.may (drop l.n l.words)) ≡ stray_from false l.words
