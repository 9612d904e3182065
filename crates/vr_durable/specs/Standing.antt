-- Which life of a durable replica a value stands for, and what each call is of it.
use Rattle.std.specs.Prelude.{◌≡◌, ◌⊎◌, true, List, [], ◌∷◌, ◌++◌}
use Rattle.il_model.specs.declared.command.Command.{Command}
use Rattle.il_model.specs.declared.command.Answer.{Answer}
use Rattle.vr_model.specs.declared.event.Event.{Event}
use Rattle.vr_model.specs.declared.message.Message as sent
use Rattle.vr_model.specs.Membership.{Membership}
use Rattle.vr_model.specs.Messages.{Message}
use Rattle.vr_model.specs.Replicas.{ReplicaState}
use Rattle.vr_model.specs.StandsFor.{StandsFrom}
use Rattle.vr_model.specs.Steps.{Input}
use Rattle.laws_pauses.specs.Pauses as pauses
use Rattle.laws_pauses.specs.Pauses.{durable_after, handed}
use Rattle.vr_core.specs.StandsFor.{IsSavedAs}
use Rattle.vr_replica.specs.Standing.{StandsFor}
use Rattle.vr_resumed.specs.Resuming.{Means}
use Rattle.vr_journal.specs.Records.{record_bytes, sum_behind}
use Rattle.vr_kept.specs.Inputs.{input_record}
use Rattle.vr_durable.specs.declared.durable.Durable.{Durable}
use Rattle.vr_durable.specs.declared.putting.Pending.{Pending}

-- these messages stand for those at their places, and each was said by who was some record then
abbrev pub WereSaid : Membership → List sent.Message → List (Message Command Answer) → Type 0
WereSaid m [] [] = Unit {0}
WereSaid m [] (x ∷ xs) = ⊥
WereSaid m (a ∷ more) [] = ⊥
WereSaid m (a ∷ more) (x ∷ xs) = ((r : ReplicaState Command) × StandsFrom IsSavedAs m.group r a x) × WereSaid m more xs

-- In memory it's what this life has there. What its store has isn't seen here: the base, what is kept, and what isn't
-- flushed.
pub record Stands (d : Durable) (m : Membership) (p : pauses.Durable Command Answer) : Type 0 where
  pub now : StandsFor d.replica m p.now
  pub held : WereSaid m d.outbox.held p.held

-- the record of an event stands behind what is to be written, and its sum is over all of it
pub record Puts (old : Pending) (e : Event) (new : Pending) : Type 0 where
  pub bytes : new.bytes.items ≡ old.bytes.items ++ record_bytes old.sum (input_record e)
  pub sum : new.sum ≡ sum_behind old.sum (input_record e)

-- the records that are to be written are as they were, and their sum
abbrev pub Same : Pending → Pending → Type 0
Same old new = (new.bytes.items ≡ old.bytes.items) × (new.sum ≡ old.sum)

-- an event is taken up, and written
abbrev pub TakesUp : Durable → Event → Durable → Type 0
TakesUp old e new = (m : Membership) (p : pauses.Durable Command Answer) (x : Input Command Answer)
    → Stands old m p → Means m p.now e x
    → Stands new m (durable_after m.f m.number m.answer p (pauses.TakesUp x true))

-- an event isn't taken up: it stands for what it stood for
abbrev pub Misses : Durable → Event → Durable → Type 0
Misses old e new = (m : Membership) (p : pauses.Durable Command Answer) (x : Input Command Answer) → Stands old m p
    → Means m p.now e x → Stands new m p

-- it stands for what it stood for
abbrev pub Stays : Durable → Durable → Type 0
Stays old new = (m : Membership) (p : pauses.Durable Command Answer) → Stands old m p → Stands new m p

-- all that is held is handed out, or nothing, and then nothing happens
abbrev pub HandsOut : Durable → Durable → List sent.Message → Type 0
HandsOut old new sends = (m : Membership) (p : pauses.Durable Command Answer) → Stands old m p
    → ((sends ≡ []) × Stands new m p)
    ⊎ (WereSaid m sends (handed m.f m.number m.answer p pauses.HandsOut)
    × Stands new m (durable_after m.f m.number m.answer p pauses.HandsOut))
