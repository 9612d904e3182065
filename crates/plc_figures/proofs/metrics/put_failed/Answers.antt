use Rattle.std.proofs.Common.{arith}
use Rattle.plc_figures.specs.Metrics.{failed_line}
use Rattle.plc_figures.proofs.Chains.{nothing}
use Rattle.plc_figures.proofs.Numbered.{all_plain, one_more_by}
use Rattle.plc_figures.proofs.metrics.put_failed.Goals as goal

pub loop-shown-init : goal.loop-shown-init
loop-shown-init c = nothing

pub loop-shown-preserved : goal.loop-shown-preserved
loop-shown-preserved c = one_more_by failed_line c.args.replicas.now _ _ (omega arith) c.loop-shown.invariant c.in_ok-put_failed_one.ensures

pub returns : goal.returns
returns c = all_plain failed_line c.args.replicas.now _ c.loop-shown-test.false c.loop-shown.invariant
