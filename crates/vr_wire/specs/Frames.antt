-- The frames of messages: the one spelling of each message that has one. All numbers are big-endian.
use Rattle.std.specs.Prelude.{◌≡◌, ℕ, ◌+◌, ◌^◌, ◌<◌, ◌≤◌, ◌⊎◌, Bool, IsTrue, true, false, List, [], ◌++◌, length, take}
use Rattle.std.specs.Prelude.{Option, Some, None}
use Rattle.std.specs.Int.{w8, w32, w64, to_be_bytes, from_be_bytes}
use Rattle.vr_model.specs.declared.message.Party.{Party}
use Rattle.vr_model.specs.declared.message.Party.TheVariants.{Replica, Client}
use Rattle.vr_model.specs.declared.message.PrimaryState.{PrimaryState}
use Rattle.vr_model.specs.declared.message.Body.{Body}
use Rattle.vr_model.specs.declared.message.Body.TheVariants as says
use Rattle.vr_model.specs.declared.message.Message.{Message}
use Rattle.vr_model.specs.Groups.{most_replicas}
use Rattle.vr_model.specs.Checkpoints.{SavedCheckpoint}
use Rattle.vr_wire.specs.declared.fault.WireFault.{WireFault}
use Rattle.vr_wire.specs.declared.fault.WireFault.TheVariants.{BadFrame, TooLarge}
use Rattle.vr_wire.specs.Fields.{answer_bytes, IsSafe, FitsAnswer}
use Rattle.vr_wire.specs.Logs.{request_bytes, log_bytes, IsLog, FitsRequest, FitsLog}

-- ---- messages: a tag, the sender, the receiver, then the fields

abbrev pub party_code : Party → ℕ
party_code (Replica s) = s
party_code (Client c) = 128 + c.number

-- a message that carries a log has one tag for a log from its first entry on, and another for one behind a checkpoint
abbrev pub log_tag : Option SavedCheckpoint → ℕ → ℕ → ℕ
log_tag None whole behind = whole
log_tag (Some c) whole behind = behind

abbrev pub state_checkpoint : Option PrimaryState → Option SavedCheckpoint
state_checkpoint None = None
state_checkpoint (Some state) = state.log.checkpoint

abbrev pub body_tag : Body → ℕ
body_tag (says.Request m) = 1
body_tag (says.Prepare v m p k) = 2
body_tag (says.PrepareOk v p) = 3
body_tag (says.Commit v k) = 4
body_tag (says.Reply v number answer) = 5
body_tag (says.StartViewChange v) = 6
body_tag (says.DoViewChange v last k log) = log_tag log.checkpoint 7 13
body_tag (says.StartView v k log) = log_tag log.checkpoint 8 14
body_tag (says.Recovery x w) = 9
body_tag (says.RecoveryResponse v x state) = log_tag (state_checkpoint state) 10 15
body_tag (says.GetState v p) = 11
body_tag (says.NewState v p k log) = log_tag log.checkpoint 12 16

-- a response whose tag tells of a checkpoint has a primary's state; else it says whether it has one
abbrev pub state_mark : Option SavedCheckpoint → List ℕ
state_mark None = to_be_bytes w8 1
state_mark (Some c) = []

abbrev pub state_bytes : Option PrimaryState → List ℕ
state_bytes None = to_be_bytes w8 0
state_bytes (Some state) = state_mark state.log.checkpoint
    ++ (to_be_bytes w64 state.commit_number ++ log_bytes state.log)

abbrev pub body_fields : Body → List ℕ
body_fields (says.Request m) = request_bytes m
body_fields (says.Prepare v m p k) = to_be_bytes w64 v ++ (request_bytes m ++ (to_be_bytes w64 p ++ to_be_bytes w64 k))
body_fields (says.PrepareOk v p) = to_be_bytes w64 v ++ to_be_bytes w64 p
body_fields (says.Commit v k) = to_be_bytes w64 v ++ to_be_bytes w64 k
body_fields (says.Reply v number answer) = to_be_bytes w64 v ++ (to_be_bytes w64 number ++ answer_bytes answer)
body_fields (says.StartViewChange v) = to_be_bytes w64 v
body_fields (says.DoViewChange v last k log) = to_be_bytes w64 v
    ++ (to_be_bytes w64 last ++ (to_be_bytes w64 k ++ log_bytes log))
body_fields (says.StartView v k log) = to_be_bytes w64 v ++ (to_be_bytes w64 k ++ log_bytes log)
body_fields (says.Recovery x w) = to_be_bytes w64 x ++ to_be_bytes w64 w
body_fields (says.RecoveryResponse v x state) = to_be_bytes w64 v ++ (to_be_bytes w64 x ++ state_bytes state)
body_fields (says.GetState v p) = to_be_bytes w64 v ++ to_be_bytes w64 p
body_fields (says.NewState v p k log) = to_be_bytes w64 v ++ (to_be_bytes w64 p ++ (to_be_bytes w64 k ++ log_bytes log))

abbrev pub message_bytes : Message → List ℕ
message_bytes m = to_be_bytes w8 (body_tag m.body)
    ++ (to_be_bytes w8 (party_code m.from) ++ (to_be_bytes w8 (party_code m.to) ++ body_fields m.body))

-- how long a body is, and the body
abbrev pub frame_of : Message → List ℕ
frame_of m = to_be_bytes w32 (length (message_bytes m)) ++ message_bytes m

-- ---- which messages have a frame

-- a replica of the largest group; where it may be, a client
abbrev pub IsEnd : Bool → Party → Type 0
IsEnd may_be_client (Replica s) = s < most_replicas
IsEnd may_be_client (Client c) = IsTrue may_be_client

-- a client sends requests alone, and gets replies alone
abbrev pub may_send : Body → Bool
may_send (says.Request m) = true
may_send _ = false

abbrev pub may_receive : Body → Bool
may_receive (says.Reply v number answer) = true
may_receive _ = false

abbrev pub IsState : Option PrimaryState → Type 0
IsState None = Unit {0}
IsState (Some state) = IsLog state.log

-- a checkpoint that answers a GETSTATE is past what was asked for
abbrev pub IsPast : ℕ → Option SavedCheckpoint → Type 0
IsPast p None = Unit {0}
IsPast p (Some c) = p < c.base

abbrev pub IsBody : Body → Type 0
IsBody (says.Reply v number answer) = IsSafe answer
IsBody (says.DoViewChange v last k log) = IsLog log
IsBody (says.StartView v k log) = IsLog log
IsBody (says.RecoveryResponse v x state) = IsState state
IsBody (says.NewState v p k log) = IsLog log × IsPast p log.checkpoint
IsBody _ = Unit {0}

-- the sender, the receiver and each field have a lawful value
pub record IsLawful (m : Message) : Type 0 where
  pub from : IsEnd (may_send m.body) m.from
  pub to : IsEnd (may_receive m.body) m.to
  pub body : IsBody m.body

-- ---- each number is within its field, as those of a message of the code are

abbrev pub FitsState : Option PrimaryState → Type 0
FitsState None = Unit {0}
FitsState (Some state) = (state.commit_number < 2 ^ 64) × FitsLog state.log

abbrev pub FitsBody : Body → Type 0
FitsBody (says.Request m) = FitsRequest m
FitsBody (says.Prepare v m p k) = (v < 2 ^ 64) × FitsRequest m × (p < 2 ^ 64) × (k < 2 ^ 64)
FitsBody (says.PrepareOk v p) = (v < 2 ^ 64) × (p < 2 ^ 64)
FitsBody (says.Commit v k) = (v < 2 ^ 64) × (k < 2 ^ 64)
FitsBody (says.Reply v number answer) = (v < 2 ^ 64) × (number < 2 ^ 64) × FitsAnswer answer
FitsBody (says.StartViewChange v) = v < 2 ^ 64
FitsBody (says.DoViewChange v last k log) = (v < 2 ^ 64) × (last < 2 ^ 64) × (k < 2 ^ 64) × FitsLog log
FitsBody (says.StartView v k log) = (v < 2 ^ 64) × (k < 2 ^ 64) × FitsLog log
FitsBody (says.Recovery x w) = (x < 2 ^ 64) × (w < 2 ^ 64)
FitsBody (says.RecoveryResponse v x state) = (v < 2 ^ 64) × (x < 2 ^ 64) × FitsState state
FitsBody (says.GetState v p) = (v < 2 ^ 64) × (p < 2 ^ 64)
FitsBody (says.NewState v p k log) = (v < 2 ^ 64) × (p < 2 ^ 64) × (k < 2 ^ 64) × FitsLog log

-- ---- frames on a stream

-- how long a body may be
abbrev pub body_limit : ℕ
body_limit = 67108864

-- a message that has a frame
pub record IsFramed (m : Message) : Type 0 where
  pub lawful : IsLawful m
  pub fits : FitsBody m.body
  pub short : length (message_bytes m) ≤ body_limit

-- the length of a body, as its first four bytes tell it
abbrev pub told_length : List ℕ → ℕ
told_length bytes = from_be_bytes w32 (take 4 bytes)

-- less than a frame: four bytes that tell how long the body is haven't come, or the body hasn't
abbrev pub IsPartial : List ℕ → Type 0
IsPartial bytes = (length bytes < 4)
    ⊎ ((0 < told_length bytes) × (told_length bytes ≤ body_limit) × (length bytes < 4 + told_length bytes))

-- no more of a frame has come than its length tells
abbrev pub IsShort : List ℕ → Type 0
IsShort bytes = 4 ≤ length bytes → length bytes < 4 + told_length bytes

-- the length of no body; or a whole body, which is no message's
abbrev pub IsBadFrame : List ℕ → Type 0
IsBadFrame bytes =
    (told_length bytes ≡ 0)
    ⊎ ((told_length bytes ≤ body_limit) × (4 + told_length bytes ≤ length bytes)
    × ((m : Message) → IsFramed m → take (4 + told_length bytes) bytes ≡ frame_of m → ⊥))

-- bytes that no stream of frames goes on with, and why
abbrev pub IsBroken : WireFault → List ℕ → Type 0
IsBroken BadFrame bytes = (4 ≤ length bytes) × IsBadFrame bytes
IsBroken TooLarge bytes = (4 ≤ length bytes) × (body_limit < told_length bytes)
