use Rattle.std.proofs.Common.{◌≡◌, length}
use Rattle.ctl_model.specs.Warm.{warm_value}
use Rattle.ctl_machine.proofs.Warming.{begun}
use Rattle.ctl_machine.proofs.state.begin_values.Given as goal

abbrev pub invariant-loop-i : goal.invariant-loop-i
invariant-loop-i l = record {
  done : l.own.items ≡ begun warm_value l.i l.variables l.initial.own.items;
  same : length l.own.items ≡ length l.variables;
}
