use Rattle.std.proofs.Common.{arith}
use Rattle.plc_figures.specs.State.{told_json}
use Rattle.plc_figures.proofs.Chains.{nothing}
use Rattle.plc_figures.proofs.Numbered.{all, more_at}
use Rattle.plc_figures.proofs.state.put_notices.Goals as goal

pub loop-number-init : goal.loop-number-init
loop-number-init c = nothing

pub loop-number-preserved : goal.loop-number-preserved
loop-number-preserved c = more_at told_json c.args.notices.now _ _ (omega arith) c.index-notices-number.is c.loop-number.invariant c.in_ok-put_told.ensures

pub returns : goal.returns
returns c = all told_json c.args.notices.now _ c.loop-number-test.false c.loop-number.invariant
