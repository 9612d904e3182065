use Rattle.std.proofs.Common.{◌≡◌, ◌∙◌, ap, subst, rules, arith}
use Rattle.std.proofs.lemmas.Grind.{common_steps}
use Rattle.il_model.specs.Snapshots.{SavedController}
use Rattle.il_model.specs.Fits.{IsImage}
use Rattle.vr_core.specs.StandsFor.{owned_after}
use Rattle.vr_core.proofs.Restoring.{program_is, no_fault, unsound, judged_sound}
use Rattle.vr_core.proofs.state.Core.is_sound.Goals as goal

pub returns-then-can_restore-clause-spoilt : goal.returns-then-can_restore-clause-spoilt
returns-then-can_restore-clause-spoilt c = λ e. judged_sound c.args.self.now c.args.snapshot.now c.image-image.result.now c.can_restore.result c.know_lawful.ensures c.can_restore.ensures c.if-can_restore.true

pub returns-in-Ok-clause-stands : goal.returns-in-Ok-clause-stands
returns-in-Ok-clause-stands c = λ e cs h.
    let core = c.args.self.now in
    let s = c.args.snapshot.now in
    let bytes : c.as_slice.result.now ≡ s.image = c.as_slice.ensures.value ∙ ap (λ (x : SavedController). x.image) c.snapshot.view_is in
    let is : (owned_after core.image core.budget.instructions cs).program ≡ c.in-Ok.image =
    program_is core.image core.budget.instructions cs s c.in-Ok.image h (λ P image e. c.in-Ok.ensures.only P image (bytes ∙ e)) in
    unsound c.restores_the_same.ensures core.image core.budget.instructions cs s c.in-Ok.image c.can_restore-in-Ok.result h is c.can_restore-in-Ok.ensures e

pub returns-in-Ok-clause-spoilt : goal.returns-in-Ok-clause-spoilt
returns-in-Ok-clause-spoilt c = judged_sound c.args.self.now c.args.snapshot.now c.in-Ok.image c.can_restore-in-Ok.result c.in-Ok.ensures.found.0 c.can_restore-in-Ok.ensures

pub returns-in-Err-Fault-clause-stands : goal.returns-in-Err-Fault-clause-stands
returns-in-Err-Fault-clause-stands c = λ e cs h.
    let core = c.args.self.now in
    let s = c.args.snapshot.now in
    let bytes : c.as_slice.result.now ≡ s.image = c.as_slice.ensures.value ∙ ap (λ (x : SavedController). x.image) c.snapshot.view_is in
    no_fault core.image core.budget.instructions cs s c.in-Err-Fault.field-0 (λ memory. first_of (cc, search rules, grind (arith, common_steps))) h (λ P image e. c.in-Err-Fault.ensures.only P image (bytes ∙ e))
