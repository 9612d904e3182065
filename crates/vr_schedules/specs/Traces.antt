-- What a trace owes to its schedule, and the laws on which that rests.
use Rattle.std.specs.Prelude.{ℕ, List, ◌≡◌, length, map, Some, None}
use Rattle.std.specs.List.{slice_get}
use Rattle.il_model.specs.declared.command.Command.{Command}
use Rattle.il_model.specs.declared.command.Answer.{Answer}
use Rattle.il_model.specs.Snapshots.{SavedController}
use Rattle.il_model.specs.Program.{Program}
use Rattle.vr_model.specs.World.{Reason, Event, Completion, start, first_replica}
use Rattle.vr_model.specs.Agreement.{OneHistory, RulesKeepExecuted, NewStatesHandLogsOn, CommitsWhatItHad}
use Rattle.vr_model.specs.Report.{Explains, Report, report, first_refusal, AllComplete}
use Rattle.vr_model.specs.Groups.{group_size}
use Rattle.vr_model.specs.Replicas.{ReplicaState}
use Rattle.vr_model.specs.StandsFor.{AllStand, requests_of}
use Rattle.vr_model.specs.Membership.{Group, Membership, member}
use Rattle.vr_schedules.specs.declared.event.WorldEvent.{WorldEvent}
use Rattle.vr_schedules.specs.declared.fault.WorldError.{WorldError}
use Rattle.vr_schedules.specs.declared.fault.WorldError.TheVariants.{BadSchedule, Memory}
use Rattle.vr_schedules.specs.declared.trace.Trace as code
use Rattle.vr_schedules.specs.Events.{events_of, reason_of}
use Rattle.vr_schedules.specs.Standing.{releases_of}

-- ---- what is known of every run

-- the laws of replication that a run of a schedule rests on
pub record Laws : Type 0 where
  pub one_history : (f : ℕ) (answer : List Command → Answer) (early late : List (Event Command × Completion))
      → OneHistory f answer early late
  pub keeps_executed : (f : ℕ) (answer : List Command → Answer) (events : List (Event Command × Completion))
      → RulesKeepExecuted f answer events
  pub hands_on : (f : ℕ) (answer : List Command → Answer) (events : List (Event Command × Completion))
      → NewStatesHandLogsOn f answer events
  pub commits : (f : ℕ) (answer : List Command → Answer) (events : List (Event Command × Completion))
      → CommitsWhatItHad f answer events
  pub explains : (f : ℕ) (answer : List Command → Answer) (events : List (Event Command × Completion))
      → Explains f answer events

-- ---- traces

-- The trace is this report: its order, lengths, releases and lost events, and messages that stand for those that were
-- sent.
pub record IsReport (IsSavedAs : Program → ℕ → List Command → SavedController → Type 0) (g : Group)
    (trace : code.Trace) (r : Report Command Answer) : Type 0 where
  pub order : requests_of trace.order.items ≡ r.order
  pub lengths : trace.lengths.items ≡ r.lengths
  pub releases : releases_of trace.releases.items ≡ r.releases
  pub sent : AllStand IsSavedAs g trace.sent.items r.sent
  pub lost : trace.lost.items ≡ r.lost

-- they are the replicas of a group, each in its place, and have done nothing yet
pub record AreNew {M : Type 0} (StandsFor : M → Membership → ReplicaState Command → Type 0) (g : Group)
    (members : List M) : Type 0 where
  pub count : length members ≡ group_size g.f
  pub each : (i : ℕ) (m : M) → slice_get members i ≡ Some m → StandsFor m (member g i) first_replica

module _ (IsSavedAs : Program → ℕ → List Command → SavedController → Type 0) (g : Group)
    (schedule : List WorldEvent) where
  -- there is a run of the schedule, each event done or lost as it may be, of which the trace is the report; and the
  -- report explains the run
  pub record IsTraced (trace : code.Trace) : Type 0 where
    pub events : List (Event Command × Completion)
    pub own : map (λ e. e.0) events ≡ events_of schedule
    pub have_steps : first_refusal g.f g.answer 0 events start ≡ None
    pub complete : AllComplete g.f g.answer events start
    pub is_report : IsReport IsSavedAs g trace (report g.f g.answer events)
    pub explains : Explains g.f g.answer events

module _ (g : Group) (schedule : List WorldEvent) where
  -- there is a run of the schedule in which this is the first event without a step, and the first reason
  pub record IsRefused (index : ℕ) (reason : Reason) : Type 0 where
    pub events : List (Event Command × Completion)
    pub own : map (λ e. e.0) events ≡ events_of schedule
    pub complete : AllComplete g.f g.answer events start
    pub refused : first_refusal g.f g.answer 0 events start ≡ Some (index, reason)

  abbrev pub Fails : WorldError → Type 0
  Fails (BadSchedule index reason) = IsRefused index (reason_of reason)
  Fails Memory = Unit {0}
