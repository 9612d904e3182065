use Rattle.std.proofs.Common.{◌≡◌, take, true}
use Rattle.std.specs.Prelude.{◌↔◌}
use Rattle.plc_console.proofs.key.is_key.Given as goal

-- whether all bytes so far are alike
abbrev pub invariant-loop-at : goal.invariant-loop-at
invariant-loop-at l = (l.are_alike ≡ true) ↔ (take l.at l.line ≡ take l.at l.key)
