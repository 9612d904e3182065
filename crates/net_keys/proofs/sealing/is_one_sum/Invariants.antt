use Rattle.std.proofs.Common.{◌≡◌, take, true}
use Rattle.std.specs.Prelude.{◌↔◌}
use Rattle.net_keys.proofs.sealing.is_one_sum.Given as goal

-- whether all bytes so far are alike
abbrev pub invariant-loop-at : goal.invariant-loop-at
invariant-loop-at l = (l.are_alike ≡ true) ↔ (take l.at l.other ≡ take l.at l.sum)
