use Rattle.std.proofs.Common.{◌≡◌, length, fold, map}
use Rattle.plc_page.specs.Outputs.{handed_in, spelt, with_new}
use Rattle.plc_page.proofs.outputs.with_handed.Given as goal

abbrev pub invariant-loop-rest : goal.invariant-loop-rest
invariant-loop-rest l = fold with_new (map spelt l.names.items) (handed_in l.rest)
    ≡ fold with_new (map spelt l.fn.declared.items) (handed_in l.code)

abbrev pub decreases-loop-rest : goal.decreases-loop-rest
decreases-loop-rest l = length l.rest
