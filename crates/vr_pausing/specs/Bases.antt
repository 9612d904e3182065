-- What is kept of a normal replica at some moment, and the replica that goes on from that.
use Rattle.std.specs.Prelude.{◌≡◌, ℕ, ◌<◌, ◌≤◌, length, slice_index, slice_get, Some}
use Rattle.il_model.specs.declared.command.Command.{Command}
use Rattle.vr_model.specs.Groups.{most_replicas}
use Rattle.vr_model.specs.Membership.{Membership}
use Rattle.vr_model.specs.Checkpoints.{KeptLog, base_of, LogStands}
use Rattle.vr_model.specs.Replicas.{Normal, ReplicaState}
use Rattle.vr_model.specs.World.{first_replica}
use Rattle.vr_model.specs.declared.standing.Status.TheVariants as statuses
use Rattle.vr_core.specs.declared.state.Core.{Core}
use Rattle.vr_core.specs.StandsFor.{IsOf, IsSavedAs, StandsFor}
use Rattle.vr_pausing.specs.declared.marking.Marks.{Marks}

-- This replica is normal, has these marks, and what is handed in stands for its whole log: so nothing that it knows is
-- missing. What it gathered for a view change or a recovery counts no more.
pub record IsBaseOf (marks : Marks) (handed : KeptLog) (w : Membership) (r : ReplicaState Command) : Type 0 where
  pub status : r.status ≡ Normal
  pub view : r.view ≡ marks.view
  pub log : LogStands IsSavedAs w.group handed r.log
  pub reached : base_of handed.checkpoint ≤ r.commit_number
  pub within : r.commit_number ≤ length r.log
  pub commit_number : r.commit_number ≡ marks.commit_number
  pub last_normal_view : r.last_normal_view ≡ marks.last_normal_view
  pub stored_view : r.stored_view ≡ marks.stored_view
  pub stored : r.stored_view ≤ r.view
  pub acknowledged : (s : ℕ) → s < most_replicas → r.acknowledged s ≡ slice_index marks.acknowledged s
  pub start_view_changes : (s : ℕ) → s < most_replicas
      → slice_get marks.start_view_changes s ≡ Some (r.start_view_changes s)
  pub sent_do_view_change : r.sent_do_view_change ≡ marks.sent_do_view_change
  pub nonce : r.nonce ≡ marks.nonce

-- the core took up nothing yet
abbrev pub IsNew : Core → Type 0
IsNew core = (w : Membership) → IsOf core w → StandsFor core w first_replica

-- the new core stands for each member's replica of which that is kept
abbrev pub Resumes : Core → Marks → KeptLog → Core → Type 0
Resumes core marks log new =
    (w : Membership) (r : ReplicaState Command) → IsOf core w → IsBaseOf marks log w r → StandsFor new w r

-- there is no such replica: the log's checkpoint can't be restored
abbrev pub ResumesNone : Core → Marks → KeptLog → Type 0
ResumesNone core marks log =
    (w : Membership) (r : ReplicaState Command) → IsOf core w → IsBaseOf marks log w r → ⊥

-- the core with these marks, normal
abbrev pub marked : Core → Marks → Core
marked core marks = record core {
  status = statuses.Normal;
  view = marks.view;
  last_normal_view = marks.last_normal_view;
  stored_view = marks.stored_view;
  acknowledged = marks.acknowledged;
  start_view_changes = marks.start_view_changes;
  sent_do_view_change = marks.sent_do_view_change;
  nonce = marks.nonce;
}
