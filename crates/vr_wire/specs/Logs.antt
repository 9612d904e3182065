-- The one spelling of what a message carries of a log: a checkpoint, if it has one, and the entries past it.
use Rattle.std.specs.Prelude.{◌≡◌, ℕ, suc, ◌^◌, ◌<◌, List, [], ◌∷◌, ◌++◌, length, Option, Some, None}
use Rattle.std.specs.List.{AllByRecursion}
use Rattle.std.specs.Int.{w8, w32, w64, to_be_bytes}
use Rattle.vr_model.specs.declared.log.Executed.{Executed}
use Rattle.vr_model.specs.declared.message.Request.{Request}
use Rattle.vr_model.specs.Groups.{client_count}
use Rattle.vr_model.specs.Checkpoints.{SavedCheckpoint, KeptLog, end_of}
use Rattle.vr_wire.specs.declared.log.ClientAnswer.{ClientAnswer}
use Rattle.vr_wire.specs.Fields.{listed, command_bytes, answer_bytes, IsSafe, FitsCommand, FitsAnswer}
use Rattle.vr_wire.specs.Snapshots.{snapshot_bytes, IsSnapshot, FitsSnapshot}

abbrev pub request_bytes : Request → List ℕ
request_bytes m = to_be_bytes w8 m.client.number ++ (to_be_bytes w64 m.number ++ command_bytes m.command)

abbrev pub entries_bytes : List Request → List ℕ
entries_bytes entries = listed w32 request_bytes entries

-- ---- checkpoints

abbrev pub client_bytes : ClientAnswer → List ℕ
client_bytes a = to_be_bytes w8 a.client ++ (to_be_bytes w64 a.executed.number ++ answer_bytes a.executed.answer)

abbrev pub with_answer : ℕ → Option Executed → List ClientAnswer → List ClientAnswer
with_answer n None others = others
with_answer n (Some executed) others = record { client = n; executed = executed } ∷ others

-- the clients from this number on that have one, rising
abbrev pub answered_from : ℕ → List (Option Executed) → List ClientAnswer
answered_from n [] = []
answered_from n (x ∷ xs) = with_answer n x (answered_from (suc n) xs)

abbrev pub clients_bytes : List (Option Executed) → List ℕ
clients_bytes clients = listed w8 client_bytes (answered_from 0 clients)

abbrev pub checkpoint_bytes : SavedCheckpoint → List ℕ
checkpoint_bytes c = to_be_bytes w64 c.base ++ (clients_bytes c.clients ++ snapshot_bytes c.snapshot)

-- ---- logs

abbrev pub may_checkpoint_bytes : Option SavedCheckpoint → List ℕ
may_checkpoint_bytes None = []
may_checkpoint_bytes (Some c) = checkpoint_bytes c

-- whether there is a checkpoint is known by the tag of the message
abbrev pub log_bytes : KeptLog → List ℕ
log_bytes log = may_checkpoint_bytes log.checkpoint ++ entries_bytes log.entries

-- ---- which have a spelling

abbrev pub IsExecuted : Option Executed → Type 0
IsExecuted None = Unit {0}
IsExecuted (Some executed) = IsSafe executed.answer

-- it stands in place of some entries, and has a place for each client
pub record IsCheckpoint (c : SavedCheckpoint) : Type 0 where
  pub base : 0 < c.base
  pub each_client : length c.clients ≡ client_count
  pub safe : AllByRecursion IsExecuted c.clients
  pub snapshot : IsSnapshot c.snapshot

abbrev pub MayBeCheckpoint : Option SavedCheckpoint → Type 0
MayBeCheckpoint None = Unit {0}
MayBeCheckpoint (Some c) = IsCheckpoint c

-- its op numbers have 64 bits, and the count of its entries has 32
pub record IsLog (log : KeptLog) : Type 0 where
  pub checkpoint : MayBeCheckpoint log.checkpoint
  pub count : length log.entries < 2 ^ 32
  pub op_number : end_of log < 2 ^ 64

-- ---- each number is within its field, as those of a message of the code are

pub record FitsRequest (m : Request) : Type 0 where
  pub number : m.number < 2 ^ 64
  pub command : FitsCommand m.command

abbrev pub FitsExecuted : Option Executed → Type 0
FitsExecuted None = Unit {0}
FitsExecuted (Some executed) = (executed.number < 2 ^ 64) × FitsAnswer executed.answer

abbrev pub FitsClient : ClientAnswer → Type 0
FitsClient a = FitsExecuted (Some a.executed)

pub record FitsCheckpoint (c : SavedCheckpoint) : Type 0 where
  pub base : c.base < 2 ^ 64
  pub clients : AllByRecursion FitsExecuted c.clients
  pub snapshot : FitsSnapshot c.snapshot

abbrev pub MayFit : Option SavedCheckpoint → Type 0
MayFit None = Unit {0}
MayFit (Some c) = FitsCheckpoint c

pub record FitsLog (log : KeptLog) : Type 0 where
  pub checkpoint : MayFit log.checkpoint
  pub entries : AllByRecursion FitsRequest log.entries
