-- What shows of a replica to other threads, beside what the replica is.
use Rattle.std.specs.Prelude.{◌≡◌, ℕ, ◌&&◌, ◌||◌, Bool, true, false, Ok, Err, if◌then◌else◌}
use Rattle.il_model.specs.declared.command.Command.{Command}
use Rattle.vr_model.specs.declared.standing.Standing.{Standing}
use Rattle.vr_model.specs.Membership.{Membership}
use Rattle.vr_model.specs.Replicas.{ReplicaState, is_down, is_normal}
use Rattle.vr_model.specs.Rules.{is_primary}
use Rattle.vr_model.specs.StandsFor.{status_of}
use Rattle.vr_replica.specs.declared.state.Replica.{Replica}
use Rattle.vr_replica.specs.declared.fault.StepFault.TheVariants as fault
use Rattle.vr_replica.specs.Standing.{StandsFor}
use Rattle.vr_replica.specs.Stepped.{StepResult}
use Rattle.vr_shown.specs.declared.shown.Shown.{Shown}

abbrev pub is_store_fault : StepResult → Bool
is_store_fault (Ok sends) = false
is_store_fault (Err fault.Memory) = false
is_store_fault (Err fault.Store) = true
is_store_fault (Err fault.Down) = false

-- it is what the replica is: its status, its view (0 while it is down), and whether it is the normal primary of that
-- view
abbrev pub IsStandingOf : Replica → Standing → Type 0
IsStandingOf replica s = (m : Membership) (r : ReplicaState Command) → StandsFor replica m r
    → (status_of s.status ≡ r.status) × (s.view ≡ (if is_down r.status then 0 else r.view))
    × (s.is_primary ≡ is_normal r.status && is_primary m.f m.number m.answer r)

-- what shows after a step that left the replica so, and had this result
abbrev pub ShowsStep : Replica → StepResult → Shown → Shown → Type 0
ShowsStep replica result before after = IsStandingOf replica after.standing × (after.starts ≡ before.starts)
    × (after.has_failed ≡ before.has_failed || is_store_fault result)

-- While the replica went from q to r, what shows of it followed: it is what the replica is, if it was so before; its
-- starts stay, and a failure of its store is not forgotten.
pub record KeepsShowing (q r : Replica) (before after : Shown) : Type 0 where
  pub standing : IsStandingOf q before.standing → IsStandingOf r after.standing
  pub starts : after.starts ≡ before.starts
  pub failed : before.has_failed ≡ true → after.has_failed ≡ true
