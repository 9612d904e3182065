use Rattle.std.proofs.Common.{◌≡◌, ◌++◌, map, take, drop}
use Rattle.std.specs.Prelude.{bit_xor}
use Rattle.net_keys.proofs.hmac.xored.Given as goal

-- the bytes so far are changed
abbrev pub invariant-loop-at : goal.invariant-loop-at
invariant-loop-at l = l.changed ≡ map (λ byte. bit_xor byte l.by) (take l.at l.block) ++ drop l.at l.block
