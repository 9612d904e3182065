-- Calls that drop what comes from no other replica of the group.
use Rattle.std.proofs.Common.{◌≡◌, ℕ, Bool, true, false, cond, not, ◌&&◌, ltb, eqb, [], Result, Ok, Err, Vec, Global, ap, sym, subst}
use Rattle.std.specs.declared.alloc.AllocError.{AllocError}
use Rattle.il_model.specs.declared.command.Command.{Command}
use Rattle.il_model.specs.declared.command.Answer.{Answer}
use Rattle.vr_model.specs.declared.message.Body as handed_in
use Rattle.vr_model.specs.declared.message.Message as sent
use Rattle.vr_model.specs.Groups.{group_size}
use Rattle.vr_model.specs.Logs.{IsPrefix}
use Rattle.vr_model.specs.Membership.{Membership}
use Rattle.vr_model.specs.Messages.{Body}
use Rattle.vr_model.specs.Replicas.{ReplicaState, Outcome}
use Rattle.vr_model.specs.Rules.{keep, from_replica}
use Rattle.vr_model.specs.StandsFor.{Fits}
use Rattle.vr_model.specs.Steps.{Matters}
use Rattle.vr_model.specs.World.{executed}
use Rattle.vr_core.specs.declared.state.Core.{Core}
use Rattle.vr_core.specs.StandsFor.{StandsFor, IsSavedAs}
use Rattle.vr_core.specs.Follows.{Rule, Tells, Leaves, Follows, Does, DoesIfKept, DoesIfFits, receives_from}
use Rattle.vr_core.proofs.Doing.{does_as, does_keep}
use Rattle.vr_core.proofs.Keeping.{kept_as, kept_of}

-- what is_other tells
abbrev pub other_for : Core → ℕ → Bool → Type 0
other_for core s b = Tells core (λ w r. ltb s (group_size w.f) && not (eqb s w.number)) b

-- a rule that is another one, where what is handed in fits
pub fits_as : (old : Core) (handed : handed_in.Body) (rule other : Rule) (new : Core) (result : Result (Vec sent.Message Global) AllocError) → DoesIfFits old handed rule new result
    → ((w : Membership) (r : ReplicaState Command) → StandsFor old w r → other w r ≡ rule w r) → DoesIfFits old handed other new result
fits_as old handed rule other new (Ok sends) h same = record {
  leaves = λ w r st prefix fits.
      subst (λ o. Leaves old new sends.items w o) (sym (same w r st))
      (h.leaves w r st (subst (λ (o : Outcome Command Answer). IsPrefix (executed r) o.replica.log) (same w r st) prefix) (subst (λ (o : Outcome Command Answer). Fits IsSavedAs w.group r o handed) (same w r st) fits));
}
fits_as old handed rule other new (Err e) h same = record { same = h.same; matters = λ w r st. subst (λ o. Matters r o) (sym (same w r st)) (h.matters w r st) }

module _ (core : Core) (s : ℕ) (body : Body Command Answer) where
  -- the message of another replica of the group has its rule
  pub of_other : other_for core s true → (w : Membership) (r : ReplicaState Command) → StandsFor core w r → receives_from s body w r ≡ from_replica w.f w.number w.answer r s body
  of_other told w r st = ap (λ t. cond t (from_replica w.f w.number w.answer r s body) (keep w.f w.number w.answer r)) (sym (told.tells w r st))

  -- any other is dropped
  pub of_none : other_for core s false → (w : Membership) (r : ReplicaState Command) → StandsFor core w r → receives_from s body w r ≡ keep w.f w.number w.answer r
  of_none told w r st = ap (λ t. cond t (from_replica w.f w.number w.answer r s body) (keep w.f w.number w.answer r)) (sym (told.tells w r st))

  pub drops : other_for core s false → (sends : Vec sent.Message Global) → sends.items ≡ [] → Does core (receives_from s body) core (Ok sends)
  drops told sends none = does_keep core (receives_from s body) sends none (of_none told)

  pub drops_kept : other_for core s false → (sends : Vec sent.Message Global) → sends.items ≡ [] → DoesIfKept core (receives_from s body) core (Ok sends)
  drops_kept told sends none = kept_of core (receives_from s body) core (Ok sends) (drops told sends none)

  pub drops_fits : other_for core s false → (handed : handed_in.Body) (sends : Vec sent.Message Global) → sends.items ≡ [] → DoesIfFits core handed (receives_from s body) core (Ok sends)
  drops_fits told handed sends none = record { leaves = λ w r st prefix fits. let k : Follows core (receives_from s body) core sends.items = drops told sends none in k.leaves w r st }

  module _ (new : Core) (result : Result (Vec sent.Message Global) AllocError) (told : other_for core s true) where
    pub does_of_other : Does core (λ w r. from_replica w.f w.number w.answer r s body) new result → Does core (receives_from s body) new result
    does_of_other h = does_as core (λ w r. from_replica w.f w.number w.answer r s body) (receives_from s body) new result h (of_other told)

    pub kept_of_other : DoesIfKept core (λ w r. from_replica w.f w.number w.answer r s body) new result → DoesIfKept core (receives_from s body) new result
    kept_of_other h = kept_as core (λ w r. from_replica w.f w.number w.answer r s body) (receives_from s body) new result h (of_other told)

    pub fits_of_other : (handed : handed_in.Body) → DoesIfFits core handed (λ w r. from_replica w.f w.number w.answer r s body) new result → DoesIfFits core handed (receives_from s body) new result
    fits_of_other handed h = fits_as core handed (λ w r. from_replica w.f w.number w.answer r s body) (receives_from s body) new result h (of_other told)
