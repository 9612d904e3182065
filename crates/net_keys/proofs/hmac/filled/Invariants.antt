use Rattle.std.proofs.Common.{◌≡◌, replicate}
use Rattle.std.proofs.Math.Seq.{paste}
use Rattle.net_keys.proofs.hmac.filled.Given as goal

-- the bytes so far, and zeros
abbrev pub invariant-loop-at : goal.invariant-loop-at
invariant-loop-at l = l.block ≡ paste (replicate 64 0) 0 l.bytes l.at
