-- What a session reads, answers, counts and writes.
use Rattle.std.specs.Prelude.{ℕ, ◌&&◌, nat_le, if◌then◌else◌, List, [], ◌∷◌, length, slice_index, Option, Some, None}
use Rattle.std.specs.Prelude.{◌≡◌, ◌⊎◌, Bool, false, ◌++◌, take}
use Rattle.std.specs.List.{flat_map}
use Rattle.std.specs.Io.KnownBytes.{Appends, Consumes, IsAtEnd}
use mathlib.Core.List.{IsPrefix}
use Rattle.io_model.specs.Streams.{Failed, Ending, Rest, Fault, Feeds, Starts}
use Rattle.io_image.specs.declared.release.Release.{Release}
use Rattle.io_image.specs.Releases.{is_stale, IsRising, shown}
use Rattle.io_image.specs.Book.{Book}
use Rattle.plc_host.specs.declared.requests.Requests.{Requests}
use Rattle.plc_host.specs.Requests.{with_request}
use Rattle.modbus_wire.specs.declared.header.HeaderFault.{HeaderFault}
use Rattle.modbus_wire.specs.Frames.{Adu, frame_of, adus}
use Rattle.modbus_server.specs.declared.serve.SessionEnd.{SessionEnd}
use Rattle.modbus_server.specs.declared.serve.SessionEnd.TheVariants as ends
use Rattle.modbus_replies.specs.declared.permitted.Access.{Access}
use Rattle.modbus_replies.specs.Replies.{Replies, permitted_reply}

-- ---- requests that are answered, as they are counted

-- the code of the exception that a reply is, if it's one: it stands behind the function's, whose bit 7 is set
abbrev pub exception_in : List ℕ → Option ℕ
exception_in pdu = if nat_le 2 (length pdu) && nat_le 128 (slice_index pdu 0) then Some (slice_index pdu 1) else None

-- with this request, which is answered so
abbrev pub with_reply : Requests → Adu → Adu → Requests
with_reply counts request reply = with_request counts (slice_index request.pdu 0) (exception_in reply.pdu)

-- with these requests and their replies, one behind another
abbrev pub with_replies : Requests → List Adu → List Adu → Requests
with_replies counts [] replies = counts
with_replies counts (request ∷ requests) [] = counts
with_replies counts (request ∷ requests) (reply ∷ replies) =
    with_replies (with_reply counts request reply) requests replies

-- ---- sessions

-- what a session works with: the book that its staging tells, if it does, the releases that its reader saw, for how
-- many milliseconds outputs are shown without a release, if there is a limit, and what its client may do
pub record Images : Type 0 where
  pub told : Option Book
  pub seen : List Release
  pub limit : Option ℕ
  pub access : Access

abbrev pub images_of : Option Book → List Release → Option ℕ → Access → Images
images_of told seen limit access = record { told = told; seen = seen; limit = limit; access = access }

-- whether outputs are stale, by the age that they have when it's asked; without a limit they never are
abbrev pub IsJudged : Option ℕ → Bool → Type 0
IsJudged None stale = stale ≡ false
IsJudged (Some limit) stale = (age : Option ℕ) × (stale ≡ is_stale (Some limit) age)

-- What the reader shows never goes back; the reply is the table's for it, or exception 4 in place of outputs that are
-- stale, or exception 1 in place of a write of who may only read, and the header is echoed.
pub record Answers (before : Images) (request reply : Adu) (after : Images) : Type 0 where
  pub seen : IsPrefix before.seen after.seen
  pub rising : IsRising after.seen
  pub limit : after.limit ≡ before.limit
  pub access : after.access ≡ before.access
  pub stale : Bool
  pub judged : IsJudged before.limit stale
  pub transaction : reply.transaction ≡ request.transaction
  pub unit : reply.unit ≡ request.unit
  pub pdu : Replies before.told after.told
      (λ staged refused. permitted_reply before.access stale request.pdu staged (shown after.seen).image.cells refused)
      reply.pdu

-- these requests, one behind another
abbrev pub AnswersAll : Images → List Adu → List Adu → Images → Type 0
AnswersAll before [] [] after = after ≡ before
AnswersAll before [] (reply ∷ replies) after = ⊥
AnswersAll before (request ∷ requests) [] after = ⊥
AnswersAll before (request ∷ requests) (reply ∷ replies) after = (between : Images)
    × Answers before request reply between × AnswersAll between requests replies after

-- The stream goes on from one ending to another, each request that is whole now was answered, and the answers went out.
pub record Serves (from : Ending HeaderFault) (input : List ℕ) (to : Ending HeaderFault) (images images' : Images)
    (held held' : Option (List ℕ)) : Type 0 where
  pub requests : List Adu
  pub replies : List Adu
  pub fed : Feeds adus from input requests to
  pub answered : AnswersAll images requests replies images'
  pub written : Appends held held' (flat_map frame_of replies)

-- The first requests of the stream were answered, and a prefix of the answers went out.
pub record Breaks (stream : List ℕ) (images images' : Images) (held held' : Option (List ℕ)) : Type 0 where
  pub requests : List Adu
  pub replies : List Adu
  pub output : List ℕ
  pub first : Starts adus stream requests
  pub answered : AnswersAll images requests replies images'
  pub prefix : IsPrefix output (flat_map frame_of replies)
  pub written : Appends held held' output

-- These requests were answered, the bytes of the answers were added, and each request was counted with its answer.
pub record Adds (before : Images) (requests : List Adu) (out out' : List ℕ) (counts counts' : Requests) (after : Images)
    : Type 0 where
  pub replies : List Adu
  pub answered : AnswersAll before requests replies after
  pub added : out' ≡ out ++ flat_map frame_of replies
  pub counted : counts' ≡ with_replies counts requests replies

-- These are the first of the requests, and were answered.
abbrev pub AnswersSome : Images → List Adu → Images → Type 0
AnswersSome before requests after = (count : ℕ) × (replies : List Adu)
    × AnswersAll before (take count requests) replies after

-- of a stream whose last bytes are kept, and of which this piece came
abbrev pub BreaksAfter : Ending HeaderFault → List ℕ → Images → Images → Option (List ℕ) → Option (List ℕ) → Type 0
BreaksAfter (Rest bytes) piece images images' held held' = Breaks (bytes ++ piece) images images' held held'
BreaksAfter (Fault fault) piece images images' held held' = ⊥

-- how a session ended over one piece of its stream
abbrev pub Stops : SessionEnd → Ending HeaderFault → List ℕ → Type 0 → Images → Images → Option (List ℕ)
    → Option (List ℕ) → Type 0
Stops ends.Closed from piece fails images images' held held' = ⊥
Stops (ends.Header fault) from piece fails images images' held held' =
    Serves from piece (Fault fault) images images' held held'
Stops ends.Memory from piece fails images images' held held' =
    BreaksAfter from piece images images' held held'
Stops ends.Device from piece fails images images' held held' = fails × BreaksAfter from piece images images' held held'

-- how a session ended that read this input; its reader's bytes at the end, and whether its reader or its writer failed
abbrev pub Ended : SessionEnd → List ℕ → Option (List ℕ) → Type 0 → Images → Images → Option (List ℕ) → Option (List ℕ)
    → Type 0
Ended ends.Closed input left fails images images' held held' = IsAtEnd left × (rest : List ℕ)
    × Serves (Rest []) input (Rest rest) images images' held held'
Ended (ends.Header fault) input left fails images images' held held' =
    Serves (Rest []) input (Fault fault) images images' held held'
Ended ends.Memory input left fails images images' held held' = Breaks input images images' held held'
Ended ends.Device input left fails images images' held held' = fails × Breaks input images images' held held'

-- what a session did, by what its reader had left and its writer held before and after, and how often each had failed
pub record Talks (end : SessionEnd) (left left' : Option (List ℕ)) (r r' : ℕ) (held held' : Option (List ℕ)) (w w' : ℕ)
    (images images' : Images) : Type 0 where
  pub input : List ℕ
  pub read : Consumes left left' input
  pub ended : Ended end input left' (Failed r r' ⊎ Failed w w') images images' held held'
