use Rattle.std.proofs.Common.{◌≡◌, ℕ, length, ap, sym, subst, ◌∙◌, arith}
use Rattle.il_model.specs.declared.snapshot.SavedPhase.{SavedPhase}
use Rattle.il_model.specs.Snapshots.{SavedController}
use Rattle.ctl_model.specs.Snapshots.{break_positions, saved_phase, fit_breaks}
use Rattle.ctl_scan.specs.Kept.{performed_in}
use Rattle.ctl_debugger.proofs.Making.{IsMade, fits_machine, fits_slots, fits_breaks, made_of}
use Rattle.ctl_debugger.proofs.controller.Controller.restore.Goals as goal

pub from_parts-requires-clause-machine : goal.from_parts-requires-clause-machine
from_parts-requires-clause-machine c = fits_machine c.args.image c.args.budget.instructions c.args.snapshot.now (sym c.fits.ensures ∙ c.if-not-fits.false)

pub from_parts-requires-clause-forces : goal.from_parts-requires-clause-forces
from_parts-requires-clause-forces c = fits_slots c.args.image c.args.budget.instructions c.args.snapshot.now (sym c.fits.ensures ∙ c.if-not-fits.false)

made_so : (c : goal.After-restored_phase) → IsMade c.args.image c.args.budget.instructions c.args.snapshot.now c.in-Some.cycle c.of-breaks.result c.restored_phase.result
made_so c =
    made_of c.args.image c.args.budget.instructions c.args.snapshot.now c.in_ok-cycle.field-0 c.in-Some.cycle c.of-breaks.result c.restored_phase.result
    (omega (arith, c.args.budget.at_least_one)) (sym c.fits.ensures ∙ c.if-not-fits.false) c.in-Some.is c.in_ok-cycle.ensures.kept c.in_ok-cycle.ensures.cycle c.know_whole.ensures
    (ap length c.of-breaks.ensures ∙ c.in_ok-flags.ensures.each ∙ c.len.ensures.len) (ap break_positions c.of-breaks.ensures ∙ c.in_ok-flags.ensures.listed ∙ c.as_slice-2.ensures.value ∙ ap (λ (s : SavedController). s.breaks) c.snapshot.view_is)
    (subst (λ (p : SavedPhase). saved_phase c.restored_phase.result (performed_in p) ≡ p) (ap (λ (s : SavedController). s.phase) c.snapshot.view_is) c.restored_phase.ensures)

pub invariant_of-result : goal.invariant_of-result
invariant_of-result c = (made_so c).kept

pub returns : goal.returns
returns c = (made_so c).restored

pub break_flags-requires : goal.break_flags-requires
break_flags-requires c =
    ap (fit_breaks c.len.result) (c.as_slice-2.ensures.value ∙ ap (λ (s : SavedController). s.breaks) c.snapshot.view_is)
    ∙ ap (λ (n : ℕ). fit_breaks n c.args.snapshot.now.breaks) c.len.ensures.len
    ∙ fits_breaks c.args.image c.args.budget.instructions c.args.snapshot.now (sym c.fits.ensures ∙ c.if-not-fits.false)
