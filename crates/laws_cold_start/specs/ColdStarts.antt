-- When the old history can't go on: f+1 replicas have lost their memory, and none of them is handed an answer to what
-- it asks for then.
use Rattle.std.specs.Prelude.{◌≡◌, ℕ, ◌+◌, ◌<◌, ◌≤◌, Bool, true, false, List, ◌++◌, take, Some, slice_get}
use Rattle.vr_model.specs.Logs.{Request, IsAmong}
use Rattle.vr_model.specs.Groups.{group_size, how_many}
use Rattle.vr_model.specs.Messages.{RecoveryResponse, Party, Replica, RecoveryResponseMessage}
use Rattle.vr_model.specs.Replicas.{is_recovering, takes_part, ReplicaState}
use Rattle.vr_model.specs.World.{World, Event, Deliver, Completion, Done, executed}
use Rattle.vr_model.specs.Report.{before}
use Rattle.vr_model.specs.Views.{world}

-- it's recovering, and this is the nonce of its last restart
abbrev pub RecoversUnder : {C : Type 0} → ReplicaState C → ℕ → Type 0
RecoversUnder r nonce = (is_recovering r.status ≡ true) × (r.nonce ≡ nonce)

-- it recovers or is down, and this is the nonce of its last restart
abbrev pub IsOutUnder : {C : Type 0} → ReplicaState C → ℕ → Type 0
IsOutUnder r nonce = (takes_part r.status ≡ false) × (r.nonce ≡ nonce)

-- the event hands this replica, while it recovers under this nonce, a RECOVERYRESPONSE to it
pub record HandsAnswer {C A : Type 0} (w : World C A) (event : Event C) (replica nonce : ℕ) : Type 0 where
  pub message : ℕ
  pub from : Party
  pub response : RecoveryResponse C
  pub event_is : event ≡ Deliver message
  pub is : slice_get w.sent message ≡ Some
      (record { from = from; to = Replica replica; body = RecoveryResponseMessage nonce response })
  pub recovers : RecoversUnder (w.replicas replica) nonce

module _ {C A : Type 0} (f : ℕ) (answer : List C → A) (early : List (Event C × Completion)) where
  -- the request stood in no replica's log at any moment of the early events
  abbrev pub IsInNoLog : Request C → Type 0
  IsInNoLog m = (moment i : ℕ) → IsAmong ((before f answer early moment).replicas i).log m → ⊥

  module _ (late : List (Event C × Completion)) where
    -- the world behind the early events and as many of the late ones
    abbrev pub behind : ℕ → World C A
    behind moment = world f answer (early ++ take moment late)

    -- none of the late events that are done hands it one
    abbrev pub IsHandedNoAnswer : ℕ → ℕ → Type 0
    IsHandedNoAnswer replica nonce = (moment : ℕ) (event : Event C) → slice_get late moment ≡ Some (event, Done)
        → HandsAnswer (behind moment) event replica nonce → ⊥

    -- Behind the early events at least so many replicas recover or are down, and none of those that recover is handed an
    -- answer to the nonce under which it does. Whatever else the late events may be: crashes, restarts, timeouts,
    -- deliveries.
    pub record AreOutUnanswered (least : ℕ) (who : ℕ → Bool) (nonces : ℕ → ℕ) : Type 0 where
      pub many : least ≤ how_many who (group_size f)
      pub out : (i : ℕ) → i < group_size f → who i ≡ true
          → IsOutUnder ((world f answer early).replicas i) (nonces i)
      pub unanswered : (i : ℕ) → i < group_size f → who i ≡ true → IsHandedNoAnswer i (nonces i)

    -- f+1 replicas
    abbrev pub AreFrozen : (ℕ → Bool) → (ℕ → ℕ) → Type 0
    AreFrozen who nonces = AreOutUnanswered (f + 1) who nonces

    -- from then on none of them is normal or in a view change: each is recovering or down
    abbrev pub TakeNoPart : (ℕ → Bool) → Type 0
    TakeNoPart who = (moment i : ℕ) → i < group_size f → who i ≡ true
        → takes_part ((behind moment).replicas i).status ≡ false

    -- from then on the request isn't in the committed list, nor has any replica executed it
    pub record IsNeverCommitted (m : Request C) : Type 0 where
      pub order : (moment : ℕ) → IsAmong (behind moment).order m → ⊥
      pub executed : (moment i : ℕ) → IsAmong (executed ((behind moment).replicas i)) m → ⊥
