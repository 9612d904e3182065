-- Which record of the rules a replica stands for.
use Rattle.std.specs.Prelude.{◌≡◌, true, false}
use Rattle.il_model.specs.declared.command.Command.{Command}
use Rattle.vr_model.specs.declared.event.Event.{Event}
use Rattle.vr_model.specs.declared.event.Event.TheVariants as event
use Rattle.vr_model.specs.Membership.{Membership}
use Rattle.vr_model.specs.Replicas.{is_down, is_recovering, ReplicaState}
use Rattle.vr_model.specs.StandsFor.{status_of}
use Rattle.vr_model.specs.declared.standing.Status.TheVariants as status
use Rattle.vr_core.specs.StandsFor.{StandsForDown}
use Rattle.vr_core.specs.StandsFor as core
use Rattle.vr_replica.specs.declared.state.Replica.{Replica}

-- It is that member, and shows the record's status and commit number. While it is up its core stands for the whole
-- record; while it is down its core stands for what a crash leaves.
pub record StandsFor (replica : Replica) (w : Membership) (r : ReplicaState Command) : Type 0 where
  pub member : core.IsOf replica.core w
  pub status : r.status ≡ status_of replica.core.status
  pub commit_number : r.commit_number ≡ replica.core.commit_number
  pub recovering : is_recovering r.status ≡ true → r.commit_number ≡ 0  -- who recovers has executed nothing
  pub up : is_down r.status ≡ false → core.StandsFor replica.core w r
  pub down : is_down r.status ≡ true → StandsForDown replica.core w r

abbrev pub IsDown : Replica → Type 0
IsDown replica = replica.core.status ≡ status.Down

-- it is down, and the event is no restart
abbrev pub IsDeafTo : Replica → Event → Type 0
IsDeafTo replica (event.Message a) = IsDown replica
IsDeafTo replica event.Timeout = IsDown replica
IsDeafTo replica event.Resend = IsDown replica
IsDeafTo replica (event.Restart x) = ⊥
