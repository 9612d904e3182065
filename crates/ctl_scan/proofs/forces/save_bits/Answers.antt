use Rattle.std.proofs.Common.{◌+◌, Vec, Global, refl, ap, ◌∙◌}
use Rattle.il_model.specs.declared.snapshot.ForcedSlot.{ForcedSlot}
use Rattle.ctl_scan.proofs.Restored.{bits_next, bits_same}
use Rattle.ctl_scan.proofs.forces.save_bits.Goals.{in-Some+in_ok-push, in_default}
use Rattle.ctl_scan.proofs.forces.save_bits.Goals as goal

pub loop-i-preserved : goal.loop-i-preserved
loop-i-preserved c = elim c.match-bits-i.branch [
  | in-Some+in_ok-push w ↦ bits_next c.args.slots.now.items c.loop-i.slots.items c.match-bits-i.slots.items c.args.base c.loop-i.i (c.args.base + c.loop-i.i) c.args.bits.now _ w.in-Some.b c.loop-i-test.true refl w.in-Some.is c.loop-i.invariant (ap (λ (v : Vec ForcedSlot Global). v.items) w.slots-is ∙ w.in_ok-push.ensures.items)
  | in_default w ↦ ap (λ (v : Vec ForcedSlot Global). v.items) w.slots-is ∙ bits_same c.args.slots.now.items c.loop-i.slots.items c.args.base c.loop-i.i c.args.bits.now _ c.loop-i-test.true w.in_default.is c.loop-i.invariant
]
