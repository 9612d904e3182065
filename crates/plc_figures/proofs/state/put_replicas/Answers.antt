use Rattle.std.proofs.Common.{arith}
use Rattle.plc_figures.specs.State.{replica_json}
use Rattle.plc_figures.proofs.Chains.{nothing}
use Rattle.plc_figures.proofs.Numbered.{all, more}
use Rattle.plc_figures.proofs.state.put_replicas.Goals as goal

pub loop-place-init : goal.loop-place-init
loop-place-init c = nothing

pub loop-place-preserved : goal.loop-place-preserved
loop-place-preserved c = more replica_json c.args.replicas.now _ _ (omega arith) c.loop-place.invariant c.in_ok-put_replica.ensures

pub returns : goal.returns
returns c = all replica_json c.args.replicas.now _ c.loop-place-test.false c.loop-place.invariant
