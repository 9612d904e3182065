-- Which event of the world an event of a schedule is.
use Rattle.std.specs.Prelude.{◌≡◌, ℕ, List, map, Option, Some}
use Rattle.il_model.specs.declared.command.Command.{Command}
use Rattle.vr_schedules.specs.declared.event.WorldEvent.{WorldEvent}
use Rattle.vr_schedules.specs.declared.event.WorldEvent.TheVariants as code
use Rattle.vr_schedules.specs.declared.fault.Reason.{Reason}
use Rattle.vr_schedules.specs.declared.fault.Reason.TheVariants as why
use Rattle.vr_schedules.specs.declared.fault.EventFault.{EventFault}
use Rattle.vr_schedules.specs.declared.fault.EventFault.TheVariants.{Refused, Memory}
use Rattle.vr_schedules.specs.declared.fault.WorldError.{WorldError}
use Rattle.vr_schedules.specs.declared.fault.WorldError.TheVariants as world
use Rattle.vr_model.specs.World.{Event, Submit, Retry, ClientRestart, Deliver, Timeout, Resend, Crash, Restart}
use Rattle.vr_model.specs.World.{StoreFail}
use Rattle.vr_model.specs.World as model
use Rattle.vr_schedules.specs.Members.{keeps_new}

abbrev pub event_of : WorldEvent → Event Command
event_of (code.Submit c command) = Submit c command
event_of (code.Retry c) = Retry c
event_of (code.ClientRestart c) = ClientRestart c
event_of (code.Deliver n) = Deliver n
event_of (code.Timeout i) = Timeout i
event_of (code.Resend i) = Resend i
event_of (code.Crash i) = Crash i
event_of (code.Restart i x) = Restart i x
event_of (code.StoreFail i kept) = StoreFail i (keeps_new kept)

abbrev pub events_of : List WorldEvent → List (Event Command)
events_of es = map event_of es

-- the reason that the code tells
abbrev pub reason_of : Reason → model.Reason
reason_of why.OutOfRange = model.OutOfRange
reason_of why.NotYetSent = model.NotYetSent
reason_of why.NonceUsed = model.NonceUsed
reason_of why.WaitsOrNot = model.WaitsOrNot
reason_of why.StillUp = model.StillUp
reason_of why.NumbersUsedUp = model.NumbersUsedUp

-- the number that is printed of a reason
abbrev pub reason_number : model.Reason → ℕ
reason_number model.OutOfRange = 1
reason_number model.NotYetSent = 2
reason_number model.NonceUsed = 3
reason_number model.WaitsOrNot = 4
reason_number model.StillUp = 5
reason_number model.NumbersUsedUp = 6

-- the fault is this reason, or memory ran out
abbrev pub IsReason : Option model.Reason → EventFault → Type 0
IsReason refusal (Refused reason) = refusal ≡ Some (reason_of reason)
IsReason refusal Memory = Unit {0}

-- the fault of event number n, as a schedule's
abbrev pub error_at : ℕ → EventFault → WorldError
error_at n (Refused reason) = world.BadSchedule n reason
error_at n Memory = world.Memory
