-- Responses that tell of a log whose checkpoint can't be taken up.
use Rattle.std.proofs.Common.{◌≡◌, ◌∙◌, ℕ, Bool, true, Some, Result, Ok, Err, sym, subst}
use Rattle.std.specs.Prelude.{IfOk}
use Rattle.std.specs.declared.alloc.AllocError.{AllocError}
use Rattle.std.proofs.lemmas.Option.{same_Some}
use Rattle.vr_model.specs.declared.message.PrimaryState as code
use Rattle.vr_core.specs.declared.state.Core.{Core}
use Rattle.vr_core.specs.declared.state.Response.{Response}
use Rattle.vr_core.specs.Checkpoints.{IsUnfit}
use Rattle.vr_recovery.specs.Responses.{IsUnfitResponse}

-- one that tells of this state, if the log of this can be taken up
pub unfit_of : (core : Core) (s : ℕ) (a : Response) (state : code.PrimaryState) (r : Result Bool AllocError) → a.state ≡ Some state → IfOk r (λ b. b ≡ true → IsUnfit core state.commit_number state.log → ⊥)
    → IfOk r (λ b. b ≡ true → IsUnfitResponse core s a → ⊥)
unfit_of core s a state (Ok b) is h = λ e unfit. h e (subst (λ (p : code.PrimaryState). IsUnfit core p.commit_number p.log) (same_Some _ _ (sym unfit.tells ∙ is)) unfit.unfit)
unfit_of core s a state (Err x) is h = tt
