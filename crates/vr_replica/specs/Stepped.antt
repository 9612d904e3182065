-- What one step of a replica owes: the rule of what it took up, or a fault of it.
use Rattle.std.specs.Prelude.{ℕ, ◌≡◌, Bool, true, false, List, Option, Some, None, Result, Ok, Err, ◌⊎◌, []}
use Rattle.std.specs.declared.alloc.Global.{Global}
use Rattle.std.specs.declared.vec.Vec.{Vec}
use Rattle.il_model.specs.declared.command.Command.{Command}
use Rattle.il_model.specs.declared.command.Answer.{Answer}
use Rattle.il_model.specs.Snapshots.{SavedController}
use Rattle.il_model.specs.Program.{Program}
use Rattle.vr_model.specs.declared.event.Event.{Event}
use Rattle.vr_model.specs.declared.event.Stored.{Stored}
use Rattle.vr_model.specs.declared.event.Event.TheVariants as event
use Rattle.vr_model.specs.declared.message.Message as code
use Rattle.vr_model.specs.declared.message.Body as body
use Rattle.vr_model.specs.declared.message.Body.TheVariants as says
use Rattle.vr_model.specs.declared.message.Party as party
use Rattle.vr_model.specs.declared.message.Party.TheVariants as parties
use Rattle.vr_model.specs.Logs.{IsPrefix}
use Rattle.vr_model.specs.Membership.{Membership}
use Rattle.vr_model.specs.Messages.{Message, Body, StartViewChange, DoViewChangeMessage, StartView, NewState}
use Rattle.vr_model.specs.Replicas.{is_down, ReplicaState, Outcome}
use Rattle.vr_model.specs.Rules.{keep, on_restart}
use Rattle.vr_model.specs.World.{down, executed}
use Rattle.vr_model.specs.Steps.{Input, Takes, TimesOut, Resends, Matters, acts}
use Rattle.vr_model.specs.StandsFor.{Stands, AllStandFrom, Fits}
use Rattle.vr_core.specs.declared.state.Core.{Core}
use Rattle.vr_core.specs.Checkpoints.{IsUnfit}
use Rattle.vr_recovery.specs.Responses.{IsUnfitResponse}
use Rattle.vr_replica.specs.declared.fault.StepFault.{StepFault}
use Rattle.vr_replica.specs.declared.fault.StepFault.TheVariants.{Memory, Store, Down}
use Rattle.vr_replica.specs.declared.fault.StepFault.TheVariants as fault
use Rattle.vr_replica.specs.declared.state.Replica.{Replica}

-- ---- the numbers of a step's faults

abbrev pub fault_number : StepFault → ℕ
fault_number Memory = 1
fault_number Store = 2
fault_number Down = 3

-- ---- what a step owes

-- what is sent, or why nothing is
abbrev pub StepResult : Type 0
StepResult = Result (Vec code.Message Global) StepFault

-- the rules of these may take over a log that is handed in, now or before
abbrev pub takes_over : {C A : Type 0} → Body C A → Bool
takes_over (StartViewChange u) = true
takes_over (DoViewChangeMessage u a) = true
takes_over (StartView u c log) = true
takes_over (NewState u p c log) = true
takes_over _ = false

-- Then the log that the rules make begins with all that the member has executed; with any other message it does so
-- anyhow.
abbrev pub KeepsExecuted : Membership → ReplicaState Command → Input Command Answer → Type 0
KeepsExecuted m r (Takes meant) = takes_over meant.body ≡ true
    → IsPrefix (executed r) (acts m.f m.number m.answer r (Takes meant)).replica.log
KeepsExecuted m r TimesOut = Unit {0}
KeepsExecuted m r Resends = Unit {0}

module _ {S : Type 0} (load_gives : S → Option Stored → S → Type 0) (save_gives : S → ℕ → Bool → S → Type 0) where
  -- what the rule saves was saved, and nothing else
  abbrev pub Saved : S → Option ℕ → S → Type 0
  Saved s None t = t ≡ s
  Saved s (Some view) t = save_gives s view true t

  -- the member m was the record r, and its store went from s to t
  module _ (IsSavedAs : Program → ℕ → List Command → SavedController → Type 0)
      (NowStands : ReplicaState Command → Type 0) (m : Membership) (r : ReplicaState Command) (s t : S) where
    -- the rule was done
    pub record Done (o : Outcome Command Answer) (out : List code.Message) : Type 0 where
      pub replica : NowStands o.replica
      pub saved : Saved s o.saves t
      pub sends : AllStandFrom IsSavedAs m.group o.replica out o.sends

    -- it was lost for want of memory: before its save, or after it
    pub record Lost (o : Outcome Command Answer) : Type 0 where
      pub replica : NowStands r
      pub matters : Matters r o
      pub saved : (t ≡ s) ⊎ Saved s o.saves t

    -- its save failed
    pub record SaveFailed (o : Outcome Command Answer) : Type 0 where
      pub replica : NowStands (down r)
      pub view : ℕ
      pub saves : o.saves ≡ Some view
      pub failed : save_gives s view false t

    -- nothing happened
    pub record Dropped : Type 0 where
      pub replica : NowStands r
      pub store : t ≡ s

    -- a restart loads the store once, and is done with the view that was loaded
    pub record CameUp (x : ℕ) (out : List code.Message) : Type 0 where
      pub stored : Stored
      pub loaded : load_gives s (Some stored) t
      pub replica : NowStands (on_restart m.f m.number m.answer (record r { stored_view = stored.view }) x).replica
      pub sends : AllStandFrom IsSavedAs m.group
          (on_restart m.f m.number m.answer (record r { stored_view = stored.view }) x).replica out
          (on_restart m.f m.number m.answer (record r { stored_view = stored.view }) x).sends

    -- or memory ran out, before the load or after it
    pub record StayedDown : Type 0 where
      pub replica : NowStands r
      pub loaded : (t ≡ s) ⊎ ((stored : Stored) × load_gives s (Some stored) t)

    -- or the load failed
    pub record LoadFailed : Type 0 where
      pub replica : NowStands r
      pub failed : load_gives s None t

    -- by what the rule says; or a fault of it
    abbrev pub Acted : Outcome Command Answer → StepResult → Type 0
    Acted o (Ok sends) = Done o sends.items
    Acted o (Err fault.Memory) = Lost o
    Acted o (Err fault.Store) = SaveFailed o
    Acted o (Err fault.Down) = (is_down r.status ≡ true) × Dropped

    -- a restart of who is down
    abbrev pub Restarted : ℕ → StepResult → Type 0
    Restarted x (Ok sends) = CameUp x sends.items
    Restarted x (Err fault.Memory) = StayedDown
    Restarted x (Err fault.Store) = LoadFailed
    Restarted x (Err fault.Down) = ⊥

    -- who is up drops a restart
    abbrev pub RestartedIf : Bool → ℕ → StepResult → Type 0
    RestartedIf true x result = Restarted x result
    RestartedIf false x result = Acted (keep m.f m.number m.answer r) result

    -- An event; of a message, for each with whole logs that it stands for. Where its rules take over a log, what they
    -- make is to begin with what was executed, and the checkpoint of a NEWSTATE is to be of that log, which no call
    -- tests.
    abbrev pub Stepped : Event → StepResult → Type 0
    Stepped (event.Message a) result =
        (meant : Message Command Answer) → Stands IsSavedAs m.group a meant → KeepsExecuted m r (Takes meant)
        → Fits IsSavedAs m.group r (acts m.f m.number m.answer r (Takes meant)) a.body
        → Acted (acts m.f m.number m.answer r (Takes meant)) result
    Stepped event.Timeout result = Acted (acts m.f m.number m.answer r TimesOut) result
    Stepped event.Resend result = Acted (acts m.f m.number m.answer r Resends) result
    Stepped (event.Restart x) result = RestartedIf (is_down r.status) x result

-- ---- events that are dropped for the checkpoint that they carry

-- the message of this replica has a checkpoint that is later than its commit number, or that can't be restored
abbrev pub IsUnfitBody : Core → ℕ → body.Body → Type 0
IsUnfitBody core s (says.DoViewChange v last c log) = IsUnfit core c log
IsUnfitBody core s (says.StartView v c log) = IsUnfit core c log
IsUnfitBody core s (says.RecoveryResponse v x state) = IsUnfitResponse core s (record { view = v; state = state })
IsUnfitBody core s (says.NewState v p c log) = IsUnfit core c log
IsUnfitBody core s _ = ⊥

abbrev pub IsUnfitFrom : Core → party.Party → body.Body → Type 0
IsUnfitFrom core (parties.Replica s) b = IsUnfitBody core s b
IsUnfitFrom core (parties.Client c) b = ⊥

abbrev pub IsUnfitEvent : Core → Event → Type 0
IsUnfitEvent core (event.Message a) = IsUnfitFrom core a.from a.body
IsUnfitEvent core _ = ⊥

-- replica and store are as they were, and nothing is sent
abbrev pub DropsEvent : {S : Type 0} → Replica → Replica → S → S → StepResult → Type 0
DropsEvent old new s t (Ok sends) = (new ≡ old) × (t ≡ s) × (sends.items ≡ [])
DropsEvent old new s t (Err e) = (new ≡ old) × (t ≡ s)
