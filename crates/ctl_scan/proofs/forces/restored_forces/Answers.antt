use Rattle.std.proofs.Common.{sym, ap, subst, ◌∙◌}
use Rattle.ctl_model.specs.declared.forces.Forces.{Forces}
use Rattle.ctl_model.specs.Snapshots.{forced_slots}
use Rattle.ctl_model.proofs.ForcedSlots.{no_forces_slots}
use Rattle.ctl_scan.proofs.Restored.{IsNext, begins, goes_on, never_none}
use Rattle.ctl_scan.proofs.forces.restored_forces.Goals.{in-Some, in_default}
use Rattle.ctl_scan.proofs.forces.restored_forces.Goals as goal

pub loop-forced-init : goal.loop-forced-init
loop-forced-init c = record {
  slots = ap forced_slots c.no_forces-forces.ensures ∙ no_forces_slots;
  next = subst (λ (f : Forces). IsNext f c.args.slots.now) (sym c.no_forces-forces.ensures) (begins c.args.slots.now c.requires);
}

pub loop-forced-preserved : goal.loop-forced-preserved
loop-forced-preserved c = elim c.match-of_code.branch [
  | in-Some w ↦
      let step = goes_on c.loop-forced.forces c.match-of_code.forces c.args.slots.now c.loop-forced.forced-index c.forced-item.result c.forced-item.result w.in-Some.loc c.loop-forced-test.true (sym c.forced-item.is) c.loop-forced.invariant.slots c.loop-forced.invariant.next (sym c.of_code.ensures ∙ w.in-Some.is) (w.forces-is ∙ w.force-is_set.ensures.forced) in
      record { slots = step.slots; next = step.next }
  | in_default w ↦ absurd (never_none c.loop-forced.forces c.args.slots.now c.loop-forced.forced-index c.forced-item.result c.forced-item.result c.loop-forced-test.true (sym c.forced-item.is) c.loop-forced.invariant.next (sym c.of_code.ensures ∙ w.in_default.is))
]
