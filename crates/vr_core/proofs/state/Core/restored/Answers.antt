use Rattle.std.proofs.Common.{◌≡◌, ◌∙◌, ap, rules, arith}
use Rattle.std.proofs.lemmas.Grind.{common_steps}
use Rattle.il_model.specs.Snapshots.{SavedController}
use Rattle.vr_core.specs.StandsFor.{owned_after}
use Rattle.vr_core.proofs.Restoring.{program_is, no_fault, restored_same, restored_sound}
use Rattle.vr_core.proofs.state.Core.restored.Goals as goal

pub returns-clause-same : goal.returns-clause-same
returns-clause-same c = λ cs h.
    let core = c.args.self.now in
    let s = c.args.snapshot.now in
    let bytes : c.as_slice.result.now ≡ s.image = c.as_slice.ensures.value ∙ ap (λ (x : SavedController). x.image) c.snapshot.view_is in
    let is : (owned_after core.image core.budget.instructions cs).program ≡ c.in-Ok.image =
    program_is core.image core.budget.instructions cs s c.in-Ok.image h (λ P image e. c.in-Ok.ensures.only P image (bytes ∙ e)) in
    restored_same c.restores_the_same.ensures core.image core.budget.instructions cs s c.in-Ok.image c.restore.result h is c.restore.ensures

pub returns-in-Err-Fault-clause-same : goal.returns-in-Err-Fault-clause-same
returns-in-Err-Fault-clause-same c = λ cs h.
    let core = c.args.self.now in
    let s = c.args.snapshot.now in
    let bytes : c.as_slice.result.now ≡ s.image = c.as_slice.ensures.value ∙ ap (λ (x : SavedController). x.image) c.snapshot.view_is in
    absurd (no_fault core.image core.budget.instructions cs s c.in-Err-Fault.field-0 (λ memory. first_of (cc, search rules, grind (arith, common_steps))) h (λ P image e. c.in-Err-Fault.ensures.only P image (bytes ∙ e)))

pub returns-clause-spoilt : goal.returns-clause-spoilt
returns-clause-spoilt c = restored_sound c.args.self.now c.args.snapshot.now c.in-Ok.image c.restore.result c.in-Ok.ensures.found.0 c.restore.ensures
