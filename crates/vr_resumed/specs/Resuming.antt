-- A replica that takes up again what it took up before, and one that goes on from a base.
use Rattle.std.specs.Prelude.{◌≡◌, List, [], ◌∷◌}
use Rattle.il_model.specs.declared.command.Command.{Command}
use Rattle.il_model.specs.declared.command.Answer.{Answer}
use Rattle.vr_model.specs.declared.event.Event.{Event}
use Rattle.vr_model.specs.declared.event.Event.TheVariants as event
use Rattle.vr_model.specs.Checkpoints.{KeptLog}
use Rattle.vr_model.specs.Membership.{Membership}
use Rattle.vr_model.specs.Messages.{Message}
use Rattle.vr_model.specs.Replicas.{Normal, ReplicaState}
use Rattle.vr_model.specs.declared.message.Message as sent
use Rattle.vr_model.specs.StandsFor.{Stands, AllStandFrom, Fits}
use Rattle.vr_model.specs.Steps.{Input, Takes, TimesOut, Resends, acts}
use Rattle.laws_pauses.specs.Pauses.{replayed}
use Rattle.vr_core.specs.declared.state.Core.{Core}
use Rattle.vr_core.specs.StandsFor as core
use Rattle.vr_core.specs.StandsFor.{IsOf, IsSavedAs}
use Rattle.vr_pausing.specs.declared.marking.Marks.{Marks}
use Rattle.vr_pausing.specs.Bases.{IsBaseOf}
use Rattle.vr_replica.specs.declared.state.Replica.{Replica}
use Rattle.vr_replica.specs.Standing.{StandsFor}
use Rattle.vr_replica.specs.Stepped.{KeepsExecuted}

-- ---- what an event means

-- To the member that is this record the event is that input: a message stands for one with whole logs. Where its rules
-- take over a log, what they make begins with what was executed, and a checkpoint is of that log: it's so in each run.
abbrev pub Means : Membership → ReplicaState Command → Event → Input Command Answer → Type 0
Means m r (event.Message a) x = (meant : Message Command Answer) × (x ≡ Takes meant)
    × Stands IsSavedAs m.group a meant × KeepsExecuted m r (Takes meant)
    × Fits IsSavedAs m.group r (acts m.f m.number m.answer r (Takes meant)) a.body
Means m r event.Timeout x = x ≡ TimesOut
Means m r event.Resend x = x ≡ Resends
Means m r (event.Restart nonce) x = ⊥

-- the same of several, each where those before it lead
abbrev pub AllMean : Membership → ReplicaState Command → List Event → List (Input Command Answer) → Type 0
AllMean m r [] [] = Unit {0}
AllMean m r [] (x ∷ xs) = ⊥
AllMean m r (e ∷ es) [] = ⊥
AllMean m r (e ∷ es) (x ∷ xs) = Means m r e x × AllMean m (acts m.f m.number m.answer r x).replica es xs

-- ---- what the calls leave

-- the rule of this record at this input was done, and said what it says
pub record Did (m : Membership) (r : ReplicaState Command) (x : Input Command Answer) (new : Replica)
    (sends : List sent.Message) : Type 0 where
  pub replica : StandsFor new m (acts m.f m.number m.answer r x).replica
  pub said : AllStandFrom IsSavedAs m.group (acts m.f m.number m.answer r x).replica sends
      (acts m.f m.number m.answer r x).sends

-- by one event
abbrev pub Steps : Replica → Event → Replica → List sent.Message → Type 0
Steps old e new sends = (m : Membership) (r : ReplicaState Command) (x : Input Command Answer) → StandsFor old m r
    → Means m r e x → Did m r x new sends

-- where that fails it stands for what it stood for
abbrev pub StaysAtErr : Replica → Event → Replica → Type 0
StaysAtErr old e new = (m : Membership) (r : ReplicaState Command) (x : Input Command Answer) → StandsFor old m r
    → Means m r e x → StandsFor new m r

-- by several
abbrev pub TakesUpAgain : Replica → List Event → Replica → Type 0
TakesUpAgain old es new = (m : Membership) (r : ReplicaState Command) (xs : List (Input Command Answer))
    → StandsFor old m r → AllMean m r es xs → StandsFor new m (replayed m.f m.number m.answer r xs)

-- what the core stands for while it's normal, the replica stands for
abbrev pub IsNormally : Core → Replica → Type 0
IsNormally c replica = (m : Membership) (r : ReplicaState Command) → r.status ≡ Normal → core.StandsFor c m r
    → StandsFor replica m r

-- The replica stands for what each record of which a base is kept becomes by the inputs that these events mean.
abbrev pub GoesOn : Core → Marks → KeptLog → List Event → Replica → Type 0
GoesOn c marks log es replica = (m : Membership) (r : ReplicaState Command) (xs : List (Input Command Answer))
    → IsOf c m → IsBaseOf marks log m r → AllMean m r es xs
    → StandsFor replica m (replayed m.f m.number m.answer r xs)
