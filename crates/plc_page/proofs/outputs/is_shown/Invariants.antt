use Rattle.std.proofs.Common.{◌≡◌, length, map}
use Rattle.plc_page.specs.Outputs.{is_shown, spelt}
use Rattle.plc_page.proofs.outputs.is_shown.Given as goal

abbrev pub invariant-loop-rest : goal.invariant-loop-rest
invariant-loop-rest l = is_shown (map spelt l.rest) l.place ≡ is_shown (map spelt l.names) l.place

abbrev pub decreases-loop-rest : goal.decreases-loop-rest
decreases-loop-rest l = length l.rest
