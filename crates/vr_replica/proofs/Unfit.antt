-- Events whose checkpoint can't be taken up.
use Rattle.std.proofs.Common.{◌≡◌, ◌∙◌, ℕ, ◌<◌, ◌≤◌, Ok, Err, Vec, Global, refl, ap, sym, subst, arith}
use Rattle.vr_model.specs.declared.event.Event.{Event}
use Rattle.vr_model.specs.declared.event.Event.TheVariants as event
use Rattle.vr_model.specs.declared.message.Body.{Body}
use Rattle.vr_model.specs.declared.message.Body.TheVariants as says
use Rattle.vr_model.specs.declared.message.Message as sent
use Rattle.vr_model.specs.Protocols.{NormalCase, protocol_of}
use Rattle.vr_core.specs.declared.state.Core.{Core}
use Rattle.vr_core.specs.Checkpoints.{Drops}
use Rattle.vr_replica.specs.declared.state.Replica.{Replica}
use Rattle.vr_replica.specs.declared.fault.StepFault.{StepFault}
use Rattle.vr_replica.specs.Stepped.{StepResult, IsUnfitBody, IsUnfitEvent, DropsEvent}

-- no message of the normal case is one
pub normal_fits : (core : Core) (s : ℕ) (b : Body) → protocol_of b ≡ NormalCase → IsUnfitBody core s b → ⊥
normal_fits core s (says.Request m) part unfit = unfit
normal_fits core s (says.Prepare v m p c) part unfit = unfit
normal_fits core s (says.PrepareOk v p) part unfit = unfit
normal_fits core s (says.Commit v c) part unfit = unfit
normal_fits core s (says.Reply v number a) part unfit = unfit
normal_fits core s (says.StartViewChange v) part unfit = absurd cc
normal_fits core s (says.DoViewChange v last c log) part unfit = absurd cc
normal_fits core s (says.StartView v c log) part unfit = absurd cc
normal_fits core s (says.Recovery x w) part unfit = absurd cc
normal_fits core s (says.RecoveryResponse v x state) part unfit = absurd cc
normal_fits core s (says.GetState v p) part unfit = absurd cc
normal_fits core s (says.NewState v p c log) part unfit = absurd cc

-- nor a restart
pub restart_fits : (core : Core) (e : Event) (x : ℕ) → e ≡ event.Restart x → IsUnfitEvent core e → ⊥
restart_fits core e x is unfit = subst (IsUnfitEvent core) is unfit

same_replica : (old : Replica) (core : Core) → core ≡ old.core → (let new : Replica = record { core = core } in new) ≡ old
same_replica old core e = ap (λ (c : Core). let r : Replica = record { core = c } in r) e

-- nothing changed, so no view is saved
pub saves_none : (old : Core) (new : Core) (sends : Vec sent.Message Global) → Drops old new (Ok sends) → old.stored_view < new.stored_view → ⊥
saves_none old new sends h less = let same : new.stored_view ≡ old.stored_view = ap (λ (c : Core). c.stored_view) h.0 in omega arith

pub drops_ok : {S : Type 0} (old : Replica) (core : Core) (s : S) (sends : Vec sent.Message Global) → Drops old.core core (Ok sends) → DropsEvent old (record { core = core }) s s (Ok sends)
drops_ok old core s sends h = (same_replica old core h.0, refl, h.1)

pub drops_err : {S : Type 0} (old : Replica) (core : Core) (s : S) (result : StepResult) (e : StepFault) → result ≡ Err e → core ≡ old.core → DropsEvent old (record { core = core }) s s result
drops_err old core s result e is same = subst (λ (r : StepResult). DropsEvent old (record { core = core }) s s r) (sym is) (same_replica old core same, refl)
