-- What a member of a group owes: one step of its rule, or a fault.
use Rattle.std.specs.Prelude.{◌≡◌, ℕ, Bool, true, false, List, Option, None, is_some, ◌&&◌, option_map, if◌then◌else◌}
use Rattle.il_model.specs.declared.command.Command.{Command}
use Rattle.il_model.specs.declared.command.Answer.{Answer}
use Rattle.il_model.specs.Snapshots.{SavedController}
use Rattle.il_model.specs.Program.{Program}
use Rattle.vr_model.specs.declared.event.Event.{Event}
use Rattle.vr_model.specs.declared.event.Event.TheVariants as event
use Rattle.vr_model.specs.declared.message.Message as code
use Rattle.vr_schedules.specs.declared.store.MemoryStore.{MemoryStore}
use Rattle.vr_schedules.specs.declared.store.Kept.{Kept}
use Rattle.vr_schedules.specs.declared.store.Kept.TheVariants.{Old, New}
use Rattle.vr_model.specs.Logs.{IsPrefix}
use Rattle.vr_model.specs.Replicas.{is_down, ReplicaState, Outcome}
use Rattle.vr_model.specs.Rules.{keep, on_restart}
use Rattle.vr_model.specs.World.{Completion, Done, Lost, Ending, Went, SaveFailed, ending_of, effect, executed}
use Rattle.vr_model.specs.Steps.{Input, Takes, TimesOut, Resends, Matters, acts}
use Rattle.vr_model.specs.StandsFor.{Stands, AllStandFrom, Fits}
use Rattle.vr_model.specs.Membership.{Membership}

-- what a member takes up, as its rules have it
pub data Taken : Type 0 where
  Acts : (input : Input Command Answer) → Taken
  ComesUp : (nonce : ℕ) → Taken

-- what its rules give for this, where its store keeps this view; a restart while it is up does nothing
abbrev pub by_rules : Membership → ℕ → ReplicaState Command → Taken → Outcome Command Answer
by_rules p stored r (Acts input) = acts p.f p.number p.answer r input
by_rules p stored r (ComesUp x) = if is_down r.status
    then on_restart p.f p.number p.answer (record r { stored_view = stored }) x else keep p.f p.number p.answer r

-- the log that its rules make of what it takes up begins with all that it has executed
abbrev pub KeepsExecuted : Membership → ReplicaState Command → Taken → Type 0
KeepsExecuted p r (Acts (Takes m)) = IsPrefix (executed r) (acts p.f p.number p.answer r (Takes m)).replica.log
KeepsExecuted p r (Acts TimesOut) = Unit {0}
KeepsExecuted p r (Acts Resends) = Unit {0}
KeepsExecuted p r (ComesUp x) = Unit {0}

module _ (IsSavedAs : Program → ℕ → List Command → SavedController → Type 0) (p : Membership) where
  -- the event is this for the rules: a message stands for the one that they take up
  abbrev pub IsTaken : Event → Taken → Type 0
  IsTaken (event.Message a) (Acts (Takes meant)) = Stands IsSavedAs p.group a meant
  IsTaken event.Timeout (Acts TimesOut) = Unit {0}
  IsTaken event.Resend (Acts Resends) = Unit {0}
  IsTaken (event.Restart x) (ComesUp y) = x ≡ y
  IsTaken _ _ = ⊥

  -- the checkpoint of a NEWSTATE is of the log that the rules make of it
  abbrev pub FitsTaken : ReplicaState Command → Event → Taken → Type 0
  FitsTaken r (event.Message a) taken = Fits IsSavedAs p.group r (by_rules p 0 r taken) a.body
  FitsTaken r event.Timeout taken = Unit {0}
  FitsTaken r event.Resend taken = Unit {0}
  FitsTaken r (event.Restart x) taken = Unit {0}

-- whether a store that fails keeps the new view
abbrev pub keeps_new : Kept → Bool
keeps_new Old = false
keeps_new New = true

abbrev pub failing_of : MemoryStore → Option Bool
failing_of s = option_map keeps_new s.failing

-- a store that failed no longer waits to
abbrev pub failing_left : Option Bool → Ending → Option Bool
failing_left failing (Went completion) = failing
failing_left failing (SaveFailed new) = None

-- a step is lost only where the rule changes the record or sends; and with its save made only where that save doesn't
-- fail
abbrev pub MayEnd : ReplicaState Command → Outcome Command Answer → Option Bool → Completion → Type 0
MayEnd r o failing Done = Unit {0}
MayEnd r o failing (Lost saved) = Matters r o × ((saved && (is_some o.saves && is_some failing)) ≡ false)

abbrev pub is_lost : Completion → Bool
is_lost Done = false
is_lost (Lost saved) = true

-- the step went as this outcome, or as a fault of it, from this record and this store
pub record Does (IsSavedAs : Program → ℕ → List Command → SavedController → Type 0) (p : Membership)
    (NowStands : ReplicaState Command → Type 0) (r : ReplicaState Command) (before after : MemoryStore)
    (o : Outcome Command Answer) (lost : Bool) (out : List code.Message) : Type 0 where
  pub completion : Completion
  pub tells : lost ≡ is_lost completion
  pub may : MayEnd r o (failing_of before) completion
  pub replica : NowStands (effect r before.view o (ending_of completion o.saves (failing_of before))).replica
  pub store : after.view ≡ (effect r before.view o (ending_of completion o.saves (failing_of before))).store
  pub failing : failing_of after ≡ failing_left (failing_of before) (ending_of completion o.saves (failing_of before))
  pub sends : AllStandFrom IsSavedAs p.group o.replica out
      (effect r before.view o (ending_of completion o.saves (failing_of before))).sends
