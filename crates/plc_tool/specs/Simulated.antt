-- What a schedule means to the program of a text, and the report that is written of it.
use Rattle.std.specs.Prelude.{◌≡◌, ◌⊎◌, ℕ, List, [], ◌++◌, map, take, codes, Option, Some, None, option_map}
use Rattle.std.specs.Prelude.{if◌then◌else◌, Contains}
use Rattle.std.specs.String.{string_bytes}
use Rattle.std.specs.Io.KnownBytes.{Appends}
use Rattle.il_model.specs.Program.{Program}
use Rattle.il_model.specs.declared.command.Command.{Command}
use Rattle.il_model.specs.declared.command.Command.TheVariants.{Force, Unforce, ReadVar}
use Rattle.ctl_model.specs.Slots.{slot_of}
use Rattle.vr_model.specs.Membership.{Group}
use Rattle.il_loader.specs.Images.{Reading, ReadsImages}
use Rattle.ctl_debugger.specs.Owned.{cold_owned}
use Rattle.ctl_debugger.specs.Outcome.{answers_with}
use Rattle.vr_core.specs.StandsFor.{group_of, IsSavedAs}
use Rattle.vr_schedules.specs.declared.event.WorldEvent.{WorldEvent}
use Rattle.vr_schedules.specs.declared.event.WorldEvent.TheVariants as events
use Rattle.vr_schedules.specs.declared.store.Kept.TheVariants.{Old, New}
use Rattle.vr_schedules.specs.declared.trace.Trace.{Trace}
use Rattle.vr_model.specs.World.{Reason}
use Rattle.vr_schedules.specs.Events.{reason_number}
use Rattle.vr_schedules.specs.Traces.{IsTraced, IsRefused}
use Rattle.vr_world.specs.History.{IsOneHistory}
use Rattle.plc_json.specs.declared.command.NamedCommand.{NamedCommand}
use Rattle.plc_json.specs.declared.command.NamedCommand.TheVariants as named
use Rattle.plc_json.specs.declared.event.NamedEvent.{NamedEvent}
use Rattle.plc_json.specs.declared.event.NamedEvent.TheVariants as asked
use Rattle.plc_json.specs.Events.{HasSchedule, HasNoSchedule}
use Rattle.il_text.specs.Meaning.{IsTypedProgramOfText, IsTextFault, IsGoodText}
use Rattle.plc_tool.specs.Reports.{report_text}
use Rattle.il_text.specs.declared.fault.Fault.{Fault}
use Rattle.il_text.specs.declared.fault.Fault.TheVariants as faults

-- the command that a named one is, where its name is one of a slot of the program
abbrev pub command_known : Program → NamedCommand → Option Command
command_known Q (named.Plain command) = Some command
command_known Q (named.Force name value) = option_map (λ slot. Force slot value) (slot_of Q (string_bytes name))
command_known Q (named.Unforce name) = option_map Unforce (slot_of Q (string_bytes name))
command_known Q (named.Read name) = option_map ReadVar (slot_of Q (string_bytes name))

-- the event of the world that a named one is, where its name is one of a slot
abbrev pub event_known : Program → NamedEvent → Option WorldEvent
event_known Q (asked.Submit client command) = option_map (events.Submit client) (command_known Q command)
event_known Q (asked.Retry client) = Some (events.Retry client)
event_known Q (asked.ClientRestart client) = Some (events.ClientRestart client)
event_known Q (asked.Deliver message) = Some (events.Deliver message)
event_known Q (asked.Timeout replica) = Some (events.Timeout replica)
event_known Q (asked.Resend replica) = Some (events.Resend replica)
event_known Q (asked.Crash replica) = Some (events.Crash replica)
event_known Q (asked.Restart replica nonce) = Some (events.Restart replica nonce)
event_known Q (asked.StoreFail replica keeps_new) = Some (events.StoreFail replica (if keeps_new then New else Old))

-- these are the events of the world that named ones are
abbrev pub AreKnown : Program → List NamedEvent → List WorldEvent → Type 0
AreKnown Q named events = map (event_known Q) named ≡ map Some events

-- a name in one of the events is no slot's of the program
pub record HasUnknownName (Q : Program) (named : List NamedEvent) : Type 0 where
  pub event : NamedEvent
  pub stands : Contains named event
  pub unknown : event_known Q event ≡ None

-- why events aren't known: memory ran out, or one of them has an unknown name
abbrev pub IsWhyUnknown : Program → List NamedEvent → Fault → Type 0
IsWhyUnknown Q named told = (told ≡ faults.Memory) ⊎ ((told ≡ faults.Schedule) × HasUnknownName Q named)

-- what is told is the first event of a run that can't take place, and the number of the first reason
pub record IsRefusedAs (g : Group) (events : List WorldEvent) (told : Fault) : Type 0 where
  pub index : ℕ
  pub reason : Reason
  pub refused : IsRefused g events index reason
  pub is : told ≡ faults.ScheduleAt index (reason_number reason)

-- why a run has no report: memory ran out, or an event can't take place
abbrev pub IsWhyNoReport : Group → List WorldEvent → Fault → Type 0
IsWhyNoReport g events told = (told ≡ faults.Memory) ⊎ IsRefusedAs g events told

-- the line of a report
abbrev pub report_line : Trace → List ℕ
report_line trace = report_text trace ++ codes "\n"

-- The report of these events was written: one history of them, answered as one controller of the text's typed program
-- answers, each scan within the budget; the bytes of a change are read as images are.
pub record IsSimulated (text : List ℕ) (budget : ℕ) (named : List NamedEvent)
    (old new : Option (List ℕ)) : Type 0 where
  pub program : Program
  pub is : IsTypedProgramOfText text program
  pub events : List WorldEvent
  pub known : AreKnown program named events
  pub reading : Reading
  pub reads : ReadsImages reading
  pub trace : Trace
  pub history : IsOneHistory (answers_with reading (cold_owned program budget)) events trace
  pub written : Appends old new (report_line trace)

-- And it's the report of a run of them by the rules of replication, with 2f+1 replicas, in which nothing was lost.
pub record IsReplicated (text : List ℕ) (f budget : ℕ) (named : List NamedEvent)
    (old new : Option (List ℕ)) : Type 0 where
  pub simulated : IsSimulated text budget named old new
  pub traced : IsTraced IsSavedAs (group_of f simulated.program budget) simulated.events simulated.trace
  pub none_lost : simulated.trace.lost.items ≡ []

-- a prefix of that report was written, before the writer failed in the call or memory ran out
pub record IsReportCutShort (text : List ℕ) (f budget : ℕ) (named : List NamedEvent)
    (old new : Option (List ℕ)) : Type 0 where
  pub program : Program
  pub is : IsTypedProgramOfText text program
  pub events : List WorldEvent
  pub known : AreKnown program named events
  pub trace : Trace
  pub traced : IsTraced IsSavedAs (group_of f program budget) events trace
  pub none_lost : trace.lost.items ≡ []
  pub written : (n : ℕ) × Appends old new (take n (report_line trace))

-- an event of the run of these events by the program can't take place
pub record CantTakePlace (Q : Program) (f budget : ℕ) (named : List NamedEvent) (told : Fault) : Type 0 where
  pub events : List WorldEvent
  pub known : AreKnown Q named events
  pub refused : IsRefusedAs (group_of f Q budget) events told

-- A schedule of these events is refused for the program of a text, and this is told: a name in them is unknown, or one
-- can't take place.
pub record IsScheduleRefused (text : List ℕ) (f budget : ℕ) (named : List NamedEvent) (told : Fault) : Type 0 where
  pub program : Program
  pub is : IsTypedProgramOfText text program
  pub why : ((told ≡ faults.Schedule) × HasUnknownName program named) ⊎ CantTakePlace program f budget named told

-- what is told of input that is refused: the first fault of the text, or that of the schedule
abbrev pub IsToldOf : List ℕ → ℕ → ℕ → List NamedEvent → Fault → Type 0
IsToldOf text f budget named told = IsTextFault text told ⊎ IsScheduleRefused text f budget named told

-- What is told of a schedule that is refused: the first fault of the text; or the text is good, and the bytes of the
-- file are no schedule, or they are one, and a name in it is unknown or an event can't take place.
abbrev pub IsFaultOfSchedule : List ℕ → ℕ → ℕ → List ℕ → Fault → Type 0
IsFaultOfSchedule text f budget file fault =
    IsTextFault text fault
    ⊎ (((fault ≡ faults.Schedule) × HasNoSchedule file × IsGoodText text)
    ⊎ ((named : List NamedEvent) × HasSchedule file named × IsScheduleRefused text f budget named fault))
