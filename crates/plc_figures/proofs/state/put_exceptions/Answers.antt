use Rattle.std.proofs.Common.{arith}
use Rattle.plc_figures.specs.State.{exception_json}
use Rattle.plc_figures.proofs.Chains.{nothing}
use Rattle.plc_figures.proofs.Numbered.{all, more}
use Rattle.plc_figures.proofs.state.put_exceptions.Goals as goal

pub loop-place-init : goal.loop-place-init
loop-place-init c = nothing

pub loop-place-preserved : goal.loop-place-preserved
loop-place-preserved c = more exception_json c.args.counts.now _ _ (omega arith) c.loop-place.invariant c.in_ok-put_exception_count.ensures

pub returns : goal.returns
returns c = all exception_json c.args.counts.now _ (omega arith) c.loop-place.invariant
