-- Which events are a replica's.
use Rattle.std.proofs.Common.{◌≡◌, ℕ, ◌<◌, List, length, Result, refl, subst, arith}
use Rattle.std.proofs.lemmas.Bool.{lt-ltb}
use Rattle.il_model.specs.declared.command.Command.{Command}
use Rattle.il_model.specs.declared.command.Answer.{Answer}
use Rattle.il_model.specs.Snapshots.{SavedController}
use Rattle.il_model.specs.Program.{Program}
use Rattle.vr_model.specs.declared.event.Event.TheVariants as event
use Rattle.vr_model.specs.Groups.{group_size}
use Rattle.vr_model.specs.Replicas.{ReplicaState}
use Rattle.vr_model.specs.World.{World, Timeout, Resend}
use Rattle.vr_model.specs.Steps.{TimesOut, Resends}
use Rattle.vr_model.specs.Membership.{Membership}
use Rattle.vr_schedules.specs.declared.world.World as code
use Rattle.vr_schedules.specs.declared.fault.EventFault.{EventFault}
use Rattle.vr_schedules.specs.Standing.{Went, WentAt}
use Rattle.vr_schedules.proofs.Acting.{IsActing, acting_went}

times_out : (f : ℕ) (answer : List Command → Answer) (w : World Command Answer) (i : ℕ) → i < group_size f → IsActing f answer w (Timeout i) i TimesOut
times_out f answer w i l = record { within = l; has_step = rw (lt-ltb i (group_size f) l) refl; releases = λ n. refl; outcome = refl; steps = λ c. refl }

resends : (f : ℕ) (answer : List Command → Answer) (w : World Command Answer) (i : ℕ) → i < group_size f → IsActing f answer w (Resend i) i Resends
resends f answer w i l = record { within = l; has_step = rw (lt-ltb i (group_size f) l) refl; releases = λ n. refl; outcome = refl; steps = λ c. refl }

module _ (IsSavedAs : Program → ℕ → List Command → SavedController → Type 0) {M : Type 0} (StandsFor : M → Membership → ReplicaState Command → Type 0) (s v : code.World M) (i number : ℕ) (result : Result (Unit {0}) EventFault)
    (named : i ≡ number) (l : number < length s.nodes.items) where
  pub timed_out : WentAt IsSavedAs StandsFor s v i event.Timeout result → Went IsSavedAs StandsFor s v (Timeout number) result
  timed_out k = subst (λ n. Went IsSavedAs StandsFor s v (Timeout n) result) named
      (acting_went IsSavedAs StandsFor s v (Timeout i) i event.Timeout result
      (λ g past w h settled. record { input = TimesOut; acting = times_out g.f g.answer w i (omega (arith, h.size)); taken = tt; keeps = tt; fits = tt }) k)

  pub sent_again : WentAt IsSavedAs StandsFor s v i event.Resend result → Went IsSavedAs StandsFor s v (Resend number) result
  sent_again k = subst (λ n. Went IsSavedAs StandsFor s v (Resend n) result) named
      (acting_went IsSavedAs StandsFor s v (Resend i) i event.Resend result
      (λ g past w h settled. record { input = Resends; acting = resends g.f g.answer w i (omega (arith, h.size)); taken = tt; keeps = tt; fits = tt }) k)
