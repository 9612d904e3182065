-- What a call has the program serve.
use Rattle.std.specs.Prelude.{◌≡◌, ℕ, Bool, true, false, List, map, Option, Some, None, string_bytes}
use Rattle.std.specs.declared.net.socket_addr.SocketAddr.{SocketAddr}
use Rattle.field_page.specs.declared.service.PageAt.{PageAt}
use Rattle.plc_console.specs.declared.sending.Reply.{Reply}
use Rattle.plc_console.specs.declared.sending.Reply.TheVariants as replies
use Rattle.plc_field.specs.declared.run.Mode.{Mode}
use Rattle.plc_field.specs.declared.run.Mode.TheVariants.{Check, Once, Forever, Stop}
use Rattle.plc_json.specs.Asking.{HasTexts, bytes_of}
use Rattle.plc_tool.specs.Calls.{IsChangeAlone}
use Rattle.plc_words.specs.declared.console.AskedConsole.{AskedConsole}
use Rattle.plc_words.specs.declared.console.Place.{Place as Named}
use Rattle.plc_words.specs.declared.console.Place.TheVariants as named
use Rattle.plc_words.specs.declared.forms.Words.{Words}
use Rattle.plc_words.specs.declared.forms.Words.TheVariants as words
use Rattle.plc.specs.declared.asking.Asking.{Asking}
use Rattle.plc.specs.declared.asking.Console.{Console}
use Rattle.plc.specs.declared.asking.Place.{Place}
use Rattle.plc.specs.declared.asking.Place.TheVariants as places
use Rattle.plc.specs.declared.Outcome.{Outcome}
use Rattle.plc.specs.declared.Outcome.TheVariants as outcomes

-- a field is only looked at, run once, or without an end, or whoever runs it is asked to stop
abbrev pub mode_of : Bool → Bool → Bool → Mode
mode_of true once stop = Check
mode_of false true stop = Once
mode_of false false true = Stop
mode_of false false false = Forever

-- the address of a page, if there is one
abbrev pub address_of : Option PageAt → Option SocketAddr
address_of None = None
address_of (Some page) = Some page.address

-- at the address, or at the socket's path, that words name
abbrev pub IsPlace : Named → Place → Type 0
IsPlace (named.Address address) (places.Address own) = own ≡ address
IsPlace (named.Socket path) (places.Socket own) = string_bytes own ≡ path.now
IsPlace _ _ = ⊥

-- the console that words name
pub record IsConsole (asked : AskedConsole) (console : Console) : Type 0 where
  pub place : IsPlace asked.place console.place
  pub timeout : console.timeout ≡ asked.timeout

-- the console is asked the commands and questions of a text, a line each
abbrev pub AsksFor : AskedConsole → Asking → Type 0
AsksFor asked asking = IsConsole asked asking.console
    × (text : List ℕ) × HasTexts text (map bytes_of asking.lines.items)

-- the console is asked to go on with the program that a text says, and nothing else
abbrev pub AsksToChange : AskedConsole → Asking → Type 0
AsksToChange asked asking = IsConsole asked asking.console
    × (text : List ℕ) × IsChangeAlone text (map bytes_of asking.lines.items)

-- A controller is to be served, a console asked, a field carried, a program fetched or two compared only where the
-- words ask for it, and all but the last two with just the settings that they name. All else is done at once.
abbrev pub IsAsAsked : Words → Outcome → Type 0
IsAsAsked asked (outcomes.Done status) = Unit {0}
IsAsAsked (words.Serve source stores report settings operators clients) (outcomes.Serve serving) = serving.service.settings ≡ settings
IsAsAsked (words.ServeMachine group directory trace) (outcomes.ServeMachine machine) =
    string_bytes machine.directory ≡ directory.now
IsAsAsked (words.Field field check once stop status) (outcomes.Carry carrying) =
    (carrying.mode ≡ mode_of check once stop) × (address_of carrying.page ≡ status)
IsAsAsked (words.Ask console commands) (outcomes.Ask asking) = AsksFor console asking
IsAsAsked (words.Change console source) (outcomes.Ask asking) = AsksToChange console asking
IsAsAsked (words.Fetch origin fetching file is_image) (outcomes.Fetch request) = Unit {0}
IsAsAsked (words.Diff old new fetching) (outcomes.Compare comparison) = Unit {0}
IsAsAsked _ _ = ⊥

-- a controller that is to be served ends after a minute without a majority of its replicas
abbrev pub IsLostAfterAMinute : Outcome → Type 0
IsLostAfterAMinute (outcomes.Serve serving) = serving.service.settings.lost_after ≡ 60
IsLostAfterAMinute _ = Unit {0}

-- the status of a reply
abbrev pub status_of_reply : Reply → ℕ
status_of_reply replies.Done = 0
status_of_reply replies.Refused = 4
status_of_reply replies.NoCommand = 5
