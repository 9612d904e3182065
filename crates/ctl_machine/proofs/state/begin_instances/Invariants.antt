use Rattle.std.proofs.Common.{◌≡◌, length}
use Rattle.ctl_model.specs.Warm.{warm_instance}
use Rattle.ctl_machine.proofs.Warming.{begun}
use Rattle.ctl_machine.proofs.state.begin_instances.Given as goal

abbrev pub invariant-loop-i : goal.invariant-loop-i
invariant-loop-i l = record {
  done : l.instances.items ≡ begun warm_instance l.i l.declared l.initial.instances.items;
  same : length l.instances.items ≡ length l.declared;
}
