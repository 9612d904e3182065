-- How a replica starts from its store, and what its thread did until it was served no more.
use Rattle.std.specs.Prelude.{◌≡◌, ℕ, ◌⊎◌, ◌==◌, Bool, not, Option, Some, None, MatchBool}
use Rattle.il_model.specs.declared.command.Command.{Command}
use Rattle.il_model.specs.Program.{Program}
use Rattle.vr_model.specs.declared.event.Stored.{Stored}
use Rattle.vr_model.specs.declared.event.Event.TheVariants as event
use Rattle.vr_model.specs.Membership.{Membership, member}
use Rattle.vr_model.specs.Replicas.{ReplicaState}
use Rattle.vr_model.specs.World.{down, first_replica}
use Rattle.vr_core.specs.StandsFor.{group_of}
use Rattle.vr_replica.specs.declared.state.Replica.{Replica}
use Rattle.vr_replica.specs.Standing.{StandsFor}
use Rattle.vr_replica.specs.Stepped.{StepResult}
use Rattle.vr_ports.specs.Parties.{Grows}
use Rattle.vr_threads.specs.declared.cluster.ClusterConfig.{ClusterConfig}
use Rattle.vr_threads.specs.declared.working.Plan.{Plan}
use Rattle.vr_serving.specs.Serving.{Scene, Served, StepsTo, sends_in}

-- ---- how a replica starts

-- it is down, whatever it was
abbrev pub StandsDown : Replica → Membership → Type 0
StandsDown replica m = (r : ReplicaState Command) → StandsFor replica m (down r)

-- the first start has no view stored, and finds the replica normal, in view 0 and with an empty log; each later one
-- finds it down, to come up with the number of starts as its nonce
abbrev pub StartsWith : Membership → Stored → Replica → Option ℕ → Type 0
StartsWith m stored replica nonce =
    MatchBool (stored.starts == 1) ((stored.view ≡ 0) × (nonce ≡ None) × StandsFor replica m first_replica)
    ((nonce ≡ Some stored.starts) × StandsDown replica m)

-- the store counted one start more; or it failed, and the replica is down for good
abbrev pub HasStarted : {S : Type 0} → (S → Option Stored → S → Type 0) → Membership → S → S → Replica → Option ℕ
    → Option ℕ → Type 0
HasStarted begin_gives m s t replica nonce starts =
    ((stored : Stored) × begin_gives s (Some stored) t × (starts ≡ Some stored.starts)
    × StartsWith m stored replica nonce)
    ⊎ (begin_gives s None t × (starts ≡ None) × (nonce ≡ None) × StandsDown replica m)

-- A start of a judged store is the first one just where that was judged. It failed where the store failed, or where the
-- store counted another start than was judged.
abbrev pub BeginsAsJudged : {S : Type 0} → (S → Option Stored → S → Type 0) → Bool → S → Option Stored → S → Type 0
BeginsAsJudged begin_gives is_first s (Some stored) t =
    begin_gives s (Some stored) t × ((stored.starts == 1) ≡ is_first)
BeginsAsJudged begin_gives is_first s None t =
    begin_gives s None t
    ⊎ ((stored : Stored) × begin_gives s (Some stored) t × ((stored.starts == 1) ≡ not is_first))

-- ---- what the thread did

-- the member that is started by a plan
abbrev pub planned : Plan → Membership
planned plan = member (group_of plan.config.f plan.image plan.budget.instructions) plan.number

-- it is for the replica of this number, of this group and program, with these limits
abbrev pub IsPlannedFor : ClusterConfig → Program → ℕ → Plan → Type 0
IsPlannedFor config program number plan = (plan.config ≡ config.group) × (plan.number ≡ number)
    × (plan.image ≡ program) × (plan.budget ≡ config.budget) × (plan.turns ≡ config.turns)

module _ {S : Type 0} (load_gives : S → Option Stored → S → Type 0) (save_gives : S → ℕ → Bool → S → Type 0)
    (faults : S → ℕ) where
  -- with a nonce it comes up by one step, a restart with this nonce; with none there is nothing to do
  abbrev pub ComesUp : Option ℕ → Scene S → Scene S → Type 0
  ComesUp None a b = b ≡ a
  ComesUp (Some nonce) a b =
      (result : StepResult)
      × StepsTo load_gives save_gives faults a.replica a.store (event.Restart nonce) b.replica b.store result
      × Grows a.sent b.sent (sends_in result) × (b.inputs ≡ a.inputs) × (b.ticks ≡ a.ticks)

  -- The replica was started from its store as this member. Before all else it came up, with the nonce of this start, if
  -- it had one; and then it was served for so many turns. What its link and its timer told before and after stands in
  -- the scenes.
  pub record Worked (begin_gives : S → Option Stored → S → Type 0) (m : Membership) (turns : ℕ)
      (before : Replica → S → Scene S) (found : S) (after : Replica → S → Scene S) (left : S) : Type 0 where
    pub comes : Replica
    pub begun : S
    pub nonce : Option ℕ
    pub starts : Option ℕ
    pub start : HasStarted begin_gives m found begun comes nonce starts
    pub up : Scene S
    pub comes_up : ComesUp nonce (before comes begun) up
    pub end : Replica
    pub served : Served load_gives save_gives faults turns up (after end left)
