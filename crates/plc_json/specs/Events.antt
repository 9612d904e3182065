-- The events that a JSON value gives, part by part.
use Rattle.std.specs.Prelude.{◌≡◌, ℕ, List, map, codes, Bool, true, false, Option, Some, None, option_and_then}
use Rattle.std.specs.Prelude.{option_map, bytes_eq, if◌then◌else◌, IsUtf8}
use Rattle.serde_json.specs.Data.{Data}
use Rattle.serde_json.specs.Find.{as_str, as_object}
use Rattle.plc_json.specs.Commands.{Named, named, command_of, number_at, pair_at, only_member, each_in}
use Rattle.plc_json.specs.declared.event.NamedEvent.{NamedEvent}
use Rattle.plc_json.specs.declared.event.NamedEvent.TheVariants as events
use Rattle.plc_json.specs.declared.event.NamedEvent.TheVariants.{Retry, ClientRestart, Deliver, Timeout, Resend, Crash}
use Rattle.plc_json.specs.declared.event.NamedEvent.TheVariants.{Restart, StoreFail}

-- an event of a number alone
abbrev pub numbered_event : List ℕ → ℕ → Option NamedEvent
numbered_event key n = if bytes_eq key (codes "retry") then Some (Retry n) else (
    if bytes_eq key (codes "clientrestart") then Some (ClientRestart n) else (
    if bytes_eq key (codes "deliver") then Some (Deliver n) else (
    if bytes_eq key (codes "timeout") then Some (Timeout n) else (
    if bytes_eq key (codes "resend") then Some (Resend n) else (
    if bytes_eq key (codes "crash") then Some (Crash n) else None)))))

-- a replica and the nonce with which it comes up
abbrev pub restart_of : Data × Data → Option NamedEvent
restart_of (replica, nonce) = option_and_then (λ i. option_map (λ x. Restart i x) (number_at nonce)) (number_at replica)

abbrev pub restart_event : Data → Option NamedEvent
restart_event d = option_and_then restart_of (pair_at d)

-- which view a store keeps whose save fails
abbrev pub keeps_new : List ℕ → Option Bool
keeps_new word = if bytes_eq word (codes "old") then Some false
    else (if bytes_eq word (codes "new") then Some true else None)

-- a replica, and which view its store keeps
abbrev pub store_fail_of : Data × Data → Option NamedEvent
store_fail_of (replica, kept) =
    option_and_then (λ i. option_map (λ b. StoreFail i b) (option_and_then keeps_new (as_str kept))) (number_at replica)

abbrev pub store_fail_event : Data → Option NamedEvent
store_fail_event d = option_and_then store_fail_of (pair_at d)

-- an event without a command, by its key
abbrev pub keyed_event : List ℕ → Data → Option NamedEvent
keyed_event key d = if bytes_eq key (codes "restart") then restart_event d else (
    if bytes_eq key (codes "storefail") then store_fail_event d else option_and_then (numbered_event key) (number_at d))

-- ---- events with commands

-- an event as a schedule has it: one that submits a command, the name in it as its bytes, or another
pub data Scheduled : Type 0 where
  Submit : ℕ → Named → Scheduled
  Other : NamedEvent → Scheduled

abbrev pub scheduled : NamedEvent → Scheduled
scheduled (events.Submit client command) = Submit client (named command)
scheduled (Retry client) = Other (Retry client)
scheduled (ClientRestart client) = Other (ClientRestart client)
scheduled (Deliver message) = Other (Deliver message)
scheduled (Timeout replica) = Other (Timeout replica)
scheduled (Resend replica) = Other (Resend replica)
scheduled (Crash replica) = Other (Crash replica)
scheduled (Restart replica nonce) = Other (Restart replica nonce)
scheduled (StoreFail replica keeps) = Other (StoreFail replica keeps)

-- a client and its command
abbrev pub submit_of : Data × Data → Option Scheduled
submit_of (client, asked) = option_and_then (λ n. option_map (λ c. Submit n c) (command_of asked)) (number_at client)

abbrev pub submit_event : Data → Option Scheduled
submit_event d = option_and_then submit_of (pair_at d)

-- the event of a key
abbrev pub event_by : List ℕ × Data → Option Scheduled
event_by (key, d) = if bytes_eq key (codes "submit") then submit_event d else option_map scheduled (keyed_event key d)

-- an object with one member, whose key is the event's name
abbrev pub event_of : Data → Option Scheduled
event_of d = option_and_then event_by (option_and_then only_member (as_object d))

-- the events of a text
abbrev pub schedule_in : List ℕ → Option (List Scheduled)
schedule_in text = each_in event_of text

-- the text has these events
abbrev pub HasSchedule : List ℕ → List NamedEvent → Type 0
HasSchedule text es = IsUtf8 text × (schedule_in text ≡ Some (map scheduled es))

-- the text isn't UTF-8, or it has no events
abbrev pub HasNoSchedule : List ℕ → Type 0
HasNoSchedule text = IsUtf8 text → schedule_in text ≡ None
