-- Which messages a connection may bring, whose hello it began with, and what comes out of it.
use Rattle.std.specs.Prelude.{◌≡◌, ℕ, ◌&&◌, not, Bool, true, false, List, Option, Some, None, Err, ◌++◌}
use Rattle.std.specs.List.{All, flat_map, AllByRecursion}
use Rattle.io_model.specs.Streams.{Ending, Splits, IsRest}
use Rattle.il_model.specs.declared.command.Command.{Command}
use Rattle.il_model.specs.declared.command.Command.TheVariants.{Scan}
use Rattle.vr_model.specs.declared.message.Party.{Party}
use Rattle.vr_model.specs.declared.message.Body.{Body}
use Rattle.vr_model.specs.declared.message.Message.{Message}
use Rattle.vr_model.specs.declared.message.Body.TheVariants as says
use Rattle.vr_wire.specs.declared.fault.WireFault.{WireFault}
use Rattle.vr_wire.specs.Frames.{frame_of, IsFramed}
use Rattle.vr_wire.specs.Streams.{frames}
use Rattle.net_hello.specs.declared.hello.Known.{Known}
use Rattle.net_hello.specs.declared.hello.Hello.{Hello}
use Rattle.net_hello.specs.Identity.{Judges}
use Rattle.vr_ports.specs.declared.link.Input.{Input}
use Rattle.vr_ports.specs.declared.link.Input.TheVariants as inputs
use Rattle.net_records.specs.declared.place.Place.TheVariants.{Length}
use Rattle.net_records.specs.Records.{bodies_from}
use Rattle.net_records.specs.Ends.{whole_bodies}
use Rattle.net_links.specs.Own.{is_same, is_between}
use Rattle.net_peers.specs.declared.accepted.Accepted.{Accepted}
use Rattle.net_peers.specs.declared.connection.Unopened.{Unopened}
use Rattle.net_peers.specs.declared.connection.Unopened.TheVariants as unopened

abbrev pub is_scan_command : Command → Bool
is_scan_command (Scan inputs moment) = true
is_scan_command command = false

-- a client asks for a scan
abbrev pub is_scan : Body → Bool
is_scan (says.Request request) = is_scan_command request.command
is_scan body = false

-- it's from one of these to the other, and no scan: scans come from the machine's own driver alone
abbrev pub may_pass : Party → Party → Message → Bool
may_pass from to message = is_between from to message && not (is_scan message.body)

abbrev pub MayPass : Party → Party → List Message → Type 0
MayPass from to messages = All (λ message. may_pass from to message ≡ true) messages

-- each of these is to this party
abbrev pub AreTo : Party → List Message → Type 0
AreTo to messages = All (λ message. is_same message.to to ≡ true) messages

-- where a message to a party came from: the machine's own exchange, or a connection whose other end said a hello that
-- was accepted, and speaks for the message's sender
abbrev pub is_from : Option Accepted → Party → Message → Bool
is_from None to message = is_same message.to to
is_from (Some accepted) to message = may_pass accepted.hello.party to message

abbrev pub CameFrom : Option Accepted → Party → List Message → Type 0
CameFrom source to messages = All (λ message. is_from source to message ≡ true) messages

-- what is given is a message to this party, which came from there, or none
abbrev pub IsGiven : Option Accepted → Party → Input → Type 0
IsGiven source to (inputs.Message message) = is_from source to message ≡ true
IsGiven source to inputs.Nothing = Unit {0}
IsGiven source to inputs.Closed = Unit {0}

-- a connection isn't opened because its hello was refused so, or because memory ran out
abbrev pub IsRefused : Hello → Option Known → Hello → Unopened → Type 0
IsRefused own seen other (unopened.Refused refusal) = Judges own seen other (Err refusal)
IsRefused own seen other unopened.Memory = Unit {0}

-- ---- what comes out of a connection that carries frames in records

-- One end read the bytes that came since the hello, and more are on their way: together they are whole records of the
-- bytes that the other end took, and those are a prefix of the frames of the messages that were put there. Then what
-- the one end gives is a prefix of these messages, in order, and it met no fault.
abbrev pub OnlySent : Type 0
OnlySent =
    (came more took rest : List ℕ) (sent given : List Message) (ending : Ending WireFault)
    → whole_bodies (came ++ more) ≡ Some took → AllByRecursion IsFramed sent → took ++ rest ≡ flat_map frame_of sent
    → Splits frames (bodies_from Length came) given ending
    → (later : List Message) × (sent ≡ given ++ later) × IsRest ending
