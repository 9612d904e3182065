use Rattle.std.proofs.Common.{◌≡◌, length}
use Rattle.il_values.specs.Spelled.{spells}
use Rattle.il_values.proofs.spelling.is_spelled.Given as goal

abbrev pub invariant-loop-keys : goal.invariant-loop-keys
invariant-loop-keys l = spells l.keys l.letters ≡ spells l.word l.text

abbrev pub decreases-loop-keys : goal.decreases-loop-keys
decreases-loop-keys l = length l.keys
