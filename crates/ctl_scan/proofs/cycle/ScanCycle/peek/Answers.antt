use Rattle.std.proofs.Common.{ap, sym, ◌∙◌}
use Rattle.ctl_model.specs.Slots.{slot_value}
use Rattle.ctl_scan.specs.Kept.{KeptCycle}
use Rattle.ctl_scan.proofs.cycle.ScanCycle.peek.Goals as goal

pub returns : goal.returns
returns c = c.peek.ensures ∙ ap (λ (x : KeptCycle). slot_value x.places x.cycle.state c.args.slot.0) c.self.view_is
