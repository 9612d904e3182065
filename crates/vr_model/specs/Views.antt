-- The views of a run: what started one, who accepted a prefix of its log, and who has left it.
use Rattle.std.specs.Prelude.{◌≡◌, ℕ, ◌<◌, ◌≤◌, ◌⊎◌, Bool, true, List, length, Some, slice_get}
use Rattle.vr_model.specs.Logs.{Request, IsPrefix}
use Rattle.vr_model.specs.Groups.{group_size, primary, IsQuorum}
use Rattle.vr_model.specs.Messages.{DoViewChange, Party, Replica, PrepareOk, DoViewChangeMessage, StartView, Message}
use Rattle.vr_model.specs.Replicas.{is_normal, ReplicaState}
use Rattle.vr_model.specs.World.{World, Event, Completion, run, start}
use Rattle.vr_model.specs.Report.{before}

-- a view above 0 is started by a STARTVIEW, and the log in it is the view's first
pub record IsStarted {C A : Type 0} (sent : List (Message C A)) (view : ℕ) : Type 0 where
  pub place : ℕ
  pub from : Party
  pub to : Party
  pub commit_number : ℕ
  pub first_log : List (Request C)
  pub is : slice_get sent place ≡ Some (record { from = from; to = to; body = StartView view commit_number first_log })

-- a replica sent a PREPAREOK of the view that reaches this far
pub record IsAcknowledged {C A : Type 0} (sent : List (Message C A)) (replica view reach : ℕ) : Type 0 where
  pub place : ℕ
  pub to : Party
  pub op_number : ℕ
  pub reaches : reach ≤ op_number
  pub is : slice_get sent place ≡ Some (record { from = Replica replica; to = to; body = PrepareOk view op_number })

-- a replica sent a DOVIEWCHANGE of a view above this one
pub record SentDoViewChange {C A : Type 0} (sent : List (Message C A)) (replica view : ℕ) : Type 0 where
  pub place : ℕ
  pub to : Party
  pub later : ℕ
  pub content : DoViewChange C
  pub above : view < later
  pub is : slice_get sent place ≡ Some
      (record { from = Replica replica; to = to; body = DoViewChangeMessage later content })

-- it is normal in a view above this one
abbrev pub IsNormalAbove : {C : Type 0} → ReplicaState C → ℕ → Type 0
IsNormalAbove r view = (is_normal r.status ≡ true) × (view < r.view)

module _ {C A : Type 0} (f : ℕ) (answer : List C → A) (events : List (Event C × Completion)) where
  -- the world at the end of the run
  abbrev pub world : World C A
  world = run f answer events start

  -- at some moment of the run the replica was normal in a view above this one
  pub record WasNormalAbove (replica view : ℕ) : Type 0 where
    pub moment : ℕ
    pub was : IsNormalAbove ((before f answer events moment).replicas replica) view

  -- At some moment of the run the view's primary was normal in it, and this was a prefix of its log: so it is a prefix
  -- of the view's log, and the primary holds it.
  pub record WasPrefixOf (view : ℕ) (log : List (Request C)) : Type 0 where
    pub moment : ℕ
    pub normal : is_normal ((before f answer events moment).replicas (primary f view)).status ≡ true
    pub view_is : ((before f answer events moment).replicas (primary f view)).view ≡ view
    pub holds : IsPrefix log ((before f answer events moment).replicas (primary f view)).log

  -- At some moment of the run some replica was normal in this view, and this was its whole log.
  pub record WasLogOf (view : ℕ) (log : List (Request C)) : Type 0 where
    pub moment : ℕ
    pub replica : ℕ
    pub normal : is_normal ((before f answer events moment).replicas replica).status ≡ true
    pub view_is : ((before f answer events moment).replicas replica).view ≡ view
    pub log_is : ((before f answer events moment).replicas replica).log ≡ log

  -- A replica accepted a prefix of the view's log if it is the view's primary and holds it, or sent a PREPAREOK of
  -- the view that reaches its end; also if it crashed since.
  pub data HasAccepted (view : ℕ) (log : List (Request C)) (replica : ℕ) : Type 0 where
    Holds : replica ≡ primary f view → WasPrefixOf view log → HasAccepted view log replica
    Acknowledged : IsAcknowledged world.sent replica view (length log) → HasAccepted view log replica

  -- it has left the view if it sent a DOVIEWCHANGE of a later view, or was normal in one
  pub data HasLeft (view replica : ℕ) : Type 0 where
    Sent : SentDoViewChange world.sent replica view → HasLeft view replica
    Became : WasNormalAbove replica view → HasLeft view replica

  -- what f+1 replicas accepted of a view's log, or could yet accept because they haven't left the view
  pub record CouldBeCommitted (view : ℕ) (log : List (Request C)) : Type 0 where
    pub prefix : WasPrefixOf view log
    pub who : ℕ → Bool
    pub quorum : IsQuorum f who
    pub each : (r : ℕ) → r < group_size f → who r ≡ true → HasAccepted view log r ⊎ (HasLeft view r → ⊥)
