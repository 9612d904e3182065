-- The client by which a node has its group scan: to whom its requests go, when they go again, and when it's woken.
use Rattle.std.specs.Prelude.{ℕ, ◌-◌, ◌==◌, Bool, false, true, not, ◌&&◌, ◌||◌, List, Option, Some, None, is_some}
use Rattle.std.specs.Prelude.{nat_le, nat_lt, if◌then◌else◌}
use Rattle.std.specs.List.{list_any}
use Rattle.std.specs.Duration.{as_nanos}
use Rattle.std.specs.declared.time.Duration.{Duration}
use Rattle.vr_model.specs.declared.message.Message.{Message}
use Rattle.vr_model.specs.declared.message.Party.{Party}
use Rattle.vr_model.specs.declared.message.Party.TheVariants as parties
use Rattle.io_image.specs.declared.release.Release.{Release}
use Rattle.plc_machine.specs.declared.driver.MachineDriver.{MachineDriver}
use Rattle.plc_machine.specs.declared.leading.Course.{Course}
use Rattle.plc_machine.specs.declared.leading.Course.TheVariants.{StandingBy, Leading}
use Rattle.plc_machine.specs.Leading.{later_by}
use Rattle.plc_node_core.specs.declared.scan_client.Answered.{Answered}
use Rattle.plc_node_core.specs.declared.scan_client.ScanClient.{ScanClient}
use Rattle.plc_node_core.specs.declared.scan_client.Answered.TheVariants as answers

-- a scan waits for its reply
abbrev pub waits_in : MachineDriver → Bool
waits_in driver = is_some driver.driver.state.waits

-- it leads, and a scan is due
abbrev pub is_scan_due : Course → Duration → Bool
is_scan_due StandingBy now = false
is_scan_due (Leading lead) now = nat_le (as_nanos lead.due) (as_nanos now)

-- or was due a period ago, or longer
abbrev pub is_scan_late : Course → Duration → Duration → Bool
is_scan_late StandingBy period now = false
is_scan_late (Leading lead) period now = nat_le (later_by (as_nanos lead.due) (as_nanos period)) (as_nanos now)

-- ---- whom a request goes to

abbrev pub is_replica : Party → ℕ → Bool
is_replica (parties.Replica to) number = to == number
is_replica (parties.Client client) number = false

-- one of these messages goes to this replica
abbrev pub goes_to : List Message → ℕ → Bool
goes_to messages number = list_any (λ message. is_replica message.to number) messages

-- they go to others than the node's own replica; where all are its own, none is another's
abbrev pub goes_to_others : List Message → Option ℕ → Bool
goes_to_others messages None = false
goes_to_others messages (Some number) = not (goes_to messages number)

-- ---- when it goes again

-- in nanoseconds: a period without a reply, and a second at most
abbrev pub silence : ℕ → ℕ
silence period = if nat_lt period 1_000_000_000 then period else 1_000_000_000

-- so long has passed since then
abbrev pub is_silent : ℕ → ℕ → ℕ → Bool
is_silent sent period now = nat_le (silence period) (now - sent)

-- a request that waits goes to every replica: at once where it went to others than the own one, and then each time
-- that no reply came for so long
abbrev pub is_asked_again : ScanClient → Duration → Bool
is_asked_again client now = waits_in client.driver
    && (client.asks_all || is_silent (as_nanos client.sent) (as_nanos client.period) (as_nanos now))

-- ---- when it's woken

abbrev pub earlier : ℕ → ℕ → ℕ
earlier one other = if nat_lt one other then one else other

abbrev pub woken_by : Course → Bool → ℕ → ℕ
woken_by StandingBy waits latest = latest
woken_by (Leading lead) true latest = latest
woken_by (Leading lead) false latest = earlier (as_nanos lead.due) latest

-- within 5 ms, and no later than a scan is due for which none waits
abbrev pub next_look : Course → Bool → ℕ → ℕ
next_look course waits now = woken_by course waits (later_by now 5_000_000)

-- ---- what a message makes of a scan that waits

-- it's the reply, and releases outputs; it's the reply of a scan that is held or stopped, behind which what is shown
-- stays, if anything is; or it's no reply that is waited for
abbrev pub answered_by : Option Release → Bool → Bool → Answered
answered_by (Some release) is_answered shows = answers.Released release
answered_by None true shows = answers.Held shows
answered_by None false shows = answers.Nothing

-- what is released by what a message is made of, if anything is
abbrev pub released_in : Answered → Option Release
released_in (answers.Released release) = Some release
released_in (answers.Held shows) = None
released_in answers.Nothing = None
