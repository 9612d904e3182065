-- Logs whose checkpoint can't be taken up, and what is dropped for it.
use Rattle.std.proofs.Common.{◌≡◌, ◌∙◌, ℕ, ◌<◌, ◌≤◌, Bool, true, false, [], Some, is_some, Result, Ok, Err, refl, ap, sym, inl, inr, arith, ◌⊎◌}
use Rattle.std.specs.Prelude.{IfOk, IsErr}
use Rattle.std.specs.declared.alloc.AllocError.{AllocError}
use Rattle.std.specs.declared.alloc.Global.{Global}
use Rattle.std.specs.declared.vec.Vec.{Vec}
use Rattle.vr_model.specs.declared.message.Message as sent
use Rattle.vr_model.specs.Checkpoints.{SavedCheckpoint, KeptLog, base_of}
use Rattle.vr_core.specs.declared.state.Core.{Core}
use Rattle.vr_core.specs.Checkpoints.{IsSpoilt, IsUnfit, Drops}

-- one that is reached and can be restored is none of these
pub never_unfit : (core : Core) (n : ℕ) (log : KeptLog) → base_of log.checkpoint ≤ n → ((c : SavedCheckpoint) → log.checkpoint ≡ Some c → IsSpoilt core c.snapshot → ⊥) → IsUnfit core n log → ⊥
never_unfit core n log reached sound u = by_reason u.why
  where
    at : base_of log.checkpoint ≡ u.checkpoint.base
    at = ap base_of u.has

    by_reason : (n < u.checkpoint.base) ⊎ IsSpoilt core u.checkpoint.snapshot → ⊥
    by_reason (inl above) = omega (arith, at, above, reached)
    by_reason (inr spoilt) = sound u.checkpoint u.has spoilt

pub fit_if : (core : Core) (n : ℕ) (log : KeptLog) (r : Result Bool AllocError) → base_of log.checkpoint ≤ n
    → IfOk r (λ b. b ≡ true → (c : SavedCheckpoint) → log.checkpoint ≡ Some c → IsSpoilt core c.snapshot → ⊥) → IfOk r (λ b. b ≡ true → IsUnfit core n log → ⊥)
fit_if core n log (Ok b) reached h = λ e. never_unfit core n log reached (h e)
fit_if core n log (Err e) reached h = tt

-- nor is a log without one
pub not_some_unfit : (core : Core) (n : ℕ) (log : KeptLog) → is_some log.checkpoint ≡ false → IsUnfit core n log → ⊥
not_some_unfit core n log none u = never (sym (ap is_some u.has) ∙ none)
  where
    never : true ≡ false → ⊥
    never e = cc

-- where nothing changed and nothing is sent
pub drops_ok : (core : Core) (sends : Vec sent.Message Global) → sends.items ≡ [] → Drops core core (Ok sends)
drops_ok core sends none = (refl, none)

-- where nothing changed, and it fails
pub drops_err : (core : Core) (r : Result (Vec sent.Message Global) AllocError) → IsErr r → Drops core core r
drops_err core (Ok x) e = absurd cc
drops_err core (Err x) e = refl
