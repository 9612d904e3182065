-- Reading messages from left to right: the inverse of their spelling; and what stands in front of a stream.
use Rattle.std.specs.Prelude.{ℕ, zero, suc, ◌-◌, ◌==◌, ◌<◌, ◌≤◌, ◌⊎◌, Bool, true, false, List, [], ◌∷◌, length, take}
use Rattle.std.specs.Prelude.{drop, slice_get, Option, Some, None, nat_lt, if◌then◌else◌}
use Rattle.std.specs.Int.{w8, w32, w64}
use Rattle.std.proofs.Common.{inl, inr}
use Rattle.std.proofs.lemmas.Bool.{cases_lt}
use Rattle.vr_model.specs.declared.client.ClientNumber.{ClientNumber}
use Rattle.vr_model.specs.declared.log.Executed.{Executed}
use Rattle.vr_model.specs.declared.message.Request.{Request}
use Rattle.vr_model.specs.declared.message.Party.{Party}
use Rattle.vr_model.specs.declared.message.Party.TheVariants.{Replica, Client}
use Rattle.vr_model.specs.declared.message.PrimaryState.{PrimaryState}
use Rattle.vr_model.specs.declared.message.Body.{Body}
use Rattle.vr_model.specs.declared.message.Body.TheVariants as says
use Rattle.vr_model.specs.declared.message.Message.{Message}
use Rattle.vr_model.specs.Groups.{most_replicas, client_count}
use Rattle.vr_model.specs.Checkpoints.{SavedCheckpoint, KeptLog, numbered}
use Rattle.vr_wire.specs.declared.fault.WireFault.{WireFault}
use Rattle.vr_wire.specs.declared.fault.WireFault.TheVariants.{BadFrame, TooLarge}
use Rattle.vr_wire.specs.declared.log.ClientAnswer.{ClientAnswer}
use Rattle.vr_wire.specs.Frames.{body_limit}
use Rattle.vr_wire.specs.Reading.{◌>>=◌, Reader, number_at, fields_0, fields_1, fields_2, fields_3, fields_4, listed_at}
use Rattle.vr_wire.specs.Reading.{lawful, passed, read_by, tagged, closed, command_at, answer_at}
use Rattle.vr_wire.specs.SnapshotReading.{snapshot_at}

-- ---- requests and entries

abbrev pub client_by : (n : ℕ) → (n < client_count) ⊎ (client_count ≤ n) → Option ClientNumber
client_by n (inl lt) = Some (record { number = n; below = lt })
client_by n (inr le) = None

abbrev pub client_of : ℕ → Option ClientNumber
client_of n = client_by n (cases_lt n client_count)

abbrev pub request_at : Reader Request
request_at bytes = fields_3 (λ client number command. record { client = client; number = number; command = command })
    (lawful client_of (number_at w8)) (number_at w64) command_at bytes

abbrev pub entries_at : Reader (List Request)
entries_at bytes = listed_at (number_at w32) request_at bytes

-- ---- checkpoints

abbrev pub is_client : ℕ → Bool
is_client n = nat_lt n client_count

abbrev pub client_answer_at : Reader ClientAnswer
client_answer_at bytes =
    fields_3 (λ client number answer. record {
      client = client;
      executed = record { number = number; answer = answer };
    }) (lawful (passed is_client) (number_at w8))
    (number_at w64) answer_at bytes

-- the answer of this client, if it is the next that is told, and the others
abbrev pub next_of : ℕ → List ClientAnswer → Option Executed × List ClientAnswer
next_of n [] = (None, [])
next_of n (a ∷ others) = if a.client == n then (Some a.executed, others) else (None, a ∷ others)

-- the answers of so many clients from this number on, of those that are told, if they rise
unfoldable pub table_from : ℕ → ℕ → List ClientAnswer → Option (List (Option Executed))
table_from zero n [] = Some []
table_from zero n (a ∷ others) = None
table_from (suc count) n answers =
    table_from count (suc n) (next_of n answers).1 >>= λ table. Some ((next_of n answers).0 ∷ table)

abbrev pub table_of : List ClientAnswer → Option (List (Option Executed))
table_of answers = table_from client_count 0 answers

abbrev pub clients_at : Reader (List (Option Executed))
clients_at bytes = lawful table_of (listed_at (number_at w8) client_answer_at) bytes

abbrev pub is_base : ℕ → Bool
is_base n = nat_lt 0 n

abbrev pub checkpoint_at : Reader SavedCheckpoint
checkpoint_at bytes = fields_3 (λ base clients snapshot. record { base = base; clients = clients; snapshot = snapshot })
    (lawful (passed is_base) (number_at w64)) clients_at snapshot_at bytes

-- ---- logs

-- from the first entry on, or behind a checkpoint
abbrev pub log_at : Bool → Reader KeptLog
log_at false bytes = fields_1 (λ entries. record { checkpoint = None; entries = entries }) entries_at bytes
log_at true bytes = lawful numbered
    (fields_2 (λ c entries. record { checkpoint = Some c; entries = entries }) checkpoint_at entries_at) bytes

-- ---- what messages say

abbrev pub primary_state_at : Bool → Reader (Option PrimaryState)
primary_state_at behind bytes =
    fields_2 (λ k log. Some (record { commit_number = k; log = log })) (number_at w64) (log_at behind) bytes

abbrev pub state_readers : List (Reader (Option PrimaryState))
state_readers = fields_0 None ∷ primary_state_at false ∷ []

-- behind a mark, or a primary's for sure
abbrev pub state_at : Bool → Reader (Option PrimaryState)
state_at false bytes = tagged state_readers bytes
state_at true bytes = primary_state_at true bytes

abbrev pub prepare_at : Reader Body
prepare_at bytes = fields_4 says.Prepare (number_at w64) request_at (number_at w64) (number_at w64) bytes

abbrev pub reply_at : Reader Body
reply_at bytes = fields_3 says.Reply (number_at w64) (number_at w64) answer_at bytes

abbrev pub do_view_change_at : Bool → Reader Body
do_view_change_at behind bytes =
    fields_4 says.DoViewChange (number_at w64) (number_at w64) (number_at w64) (log_at behind) bytes

abbrev pub start_view_at : Bool → Reader Body
start_view_at behind bytes = fields_3 says.StartView (number_at w64) (number_at w64) (log_at behind) bytes

abbrev pub recovery_response_at : Bool → Reader Body
recovery_response_at behind bytes =
    fields_3 says.RecoveryResponse (number_at w64) (number_at w64) (state_at behind) bytes

abbrev pub is_past : ℕ → Option SavedCheckpoint → Bool
is_past p None = true
is_past p (Some c) = nat_lt p c.base

-- a NEWSTATE's checkpoint is past what was asked for; the other bodies have no such thing
abbrev pub has_past : Body → Bool
has_past (says.NewState v p k log) = is_past p log.checkpoint
has_past _ = true

abbrev pub new_state_at : Bool → Reader Body
new_state_at behind bytes =
    lawful (passed has_past)
    (fields_4 says.NewState (number_at w64) (number_at w64) (number_at w64) (log_at behind)) bytes

abbrev pub numbers_at : Reader (ℕ × ℕ)
numbers_at bytes = fields_2 (λ first second. (first, second)) (number_at w64) (number_at w64) bytes

abbrev pub no_body : Reader Body
no_body bytes = None

-- in the order of their tags, from 1
abbrev pub body_readers : List (Reader Body)
body_readers =
    no_body ∷
    fields_1 says.Request request_at ∷
    prepare_at ∷
    fields_2 says.PrepareOk (number_at w64) (number_at w64) ∷
    fields_2 says.Commit (number_at w64) (number_at w64) ∷
    reply_at ∷
    fields_1 says.StartViewChange (number_at w64) ∷
    do_view_change_at false ∷
    start_view_at false ∷
    fields_2 says.Recovery (number_at w64) (number_at w64) ∷
    recovery_response_at false ∷
    fields_2 says.GetState (number_at w64) (number_at w64) ∷
    new_state_at false ∷
    do_view_change_at true ∷
    start_view_at true ∷
    recovery_response_at true ∷
    new_state_at true ∷ []

abbrev pub body_at : ℕ → Reader Body
body_at tag bytes = read_by (slice_get body_readers tag) bytes

-- ---- messages

abbrev pub client_end : Bool → ℕ → Option Party
client_end false n = None
client_end true n = client_of n >>= λ c. Some (Client c)

abbrev pub party_of_code : Bool → ℕ → Option Party
party_of_code may_be_client n =
    if nat_lt n most_replicas then Some (Replica n)
    else (if nat_lt n 128 then None else client_end may_be_client (n - 128))

abbrev pub party_at : Bool → Reader Party
party_at may_be_client bytes = lawful (party_of_code may_be_client) (number_at w8) bytes

-- a sender and a receiver, and the fields behind them
abbrev pub parts_at : ℕ → Reader Message
parts_at tag bytes = fields_3 (λ from to body. record { from = from; to = to; body = body }) (party_at (tag == 1))
    (party_at (tag == 5)) (body_at tag) bytes

-- the message whose body is all of the bytes
unfoldable pub message_at : List ℕ → Option Message
message_at bytes = number_at w8 bytes >>= λ tag. closed (parts_at tag.0) tag.1

-- ---- what stands in front of a stream

-- less than a frame; a message's frame, and what is behind it; or a fault
pub data Front : Type 0 where
  Waits : Front
  Whole : (message : Message) (rest : List ℕ) → Front
  Broken : (fault : WireFault) → Front

abbrev pub found : Option Message → List ℕ → Front
found None rest = Broken BadFrame
found (Some m) rest = Whole m rest

-- behind four bytes that tell a length
abbrev pub front_by : ℕ → List ℕ → Front
front_by n bytes =
    if n == 0 then Broken BadFrame
    else (if nat_lt body_limit n then Broken TooLarge
    else (if nat_lt (length bytes) n then Waits else found (message_at (take n bytes)) (drop n bytes)))

abbrev pub front_behind : Option (ℕ × List ℕ) → Front
front_behind None = Waits
front_behind (Some n) = front_by n.0 n.1

unfoldable pub front_of : List ℕ → Front
front_of bytes = front_behind (number_at w32 bytes)
