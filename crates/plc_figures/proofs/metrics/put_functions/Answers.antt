use Rattle.std.proofs.Common.{arith}
use Rattle.plc_figures.specs.Metrics.{function_line}
use Rattle.plc_figures.proofs.Chains.{nothing}
use Rattle.plc_figures.proofs.Numbered.{all, more}
use Rattle.plc_figures.proofs.metrics.put_functions.Goals as goal

pub loop-place-init : goal.loop-place-init
loop-place-init c = nothing

pub loop-place-preserved : goal.loop-place-preserved
loop-place-preserved c = more function_line c.args.counts.now _ _ (omega arith) c.loop-place.invariant c.in_ok-put_function_line.ensures

pub returns : goal.returns
returns c = all function_line c.args.counts.now _ (omega arith) c.loop-place.invariant
