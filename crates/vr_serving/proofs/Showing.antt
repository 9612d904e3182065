-- What shows of a replica, from step to step.
use Rattle.std.proofs.Common.{◌≡◌, ◌||◌, Bool, true, refl, ap, ◌∙◌}
use Rattle.vr_replica.specs.declared.state.Replica.{Replica}
use Rattle.vr_replica.specs.Stepped.{StepResult}
use Rattle.vr_shown.specs.declared.shown.Shown.{Shown}
use Rattle.vr_serving.specs.Showing.{ShowsStep, KeepsShowing, is_store_fault}

pub shows_still : (q : Replica) (a : Shown) → KeepsShowing q q a a
shows_still q a = record { standing = λ is. is; starts = refl; failed = λ e. e }

-- a step shows
pub shows_one : (q r : Replica) (result : StepResult) (a b : Shown) → ShowsStep r result a b → KeepsShowing q r a b
shows_one q r result a b h =
    record { standing = λ is. h.0; starts = h.1; failed = λ e. h.2 ∙ ap (λ (x : Bool). x || is_store_fault result) e }

-- what showed of some steps, and of others after them
pub shows_more : (p q r : Replica) (a b c : Shown) → KeepsShowing p q a b → KeepsShowing q r b c → KeepsShowing p r a c
shows_more p q r a b c h k = record { standing = λ is. k.standing (h.standing is); starts = k.starts ∙ h.starts; failed = λ e. k.failed (h.failed e) }
