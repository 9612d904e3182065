-- A durable replica over all of its calls, and over the cuts behind which it goes on.
use Rattle.std.specs.Prelude.{◌≡◌, ℕ, Bool, List, [], ◌∷◌, ◌++◌}
use Rattle.il_model.specs.declared.command.Command.{Command}
use Rattle.il_model.specs.declared.command.Answer.{Answer}
use Rattle.vr_core.specs.declared.state.Core.{Core}
use Rattle.vr_core.specs.StandsFor.{IsOf}
use Rattle.vr_model.specs.Checkpoints.{KeptLog}
use Rattle.vr_model.specs.declared.event.Event.{Event}
use Rattle.vr_model.specs.declared.message.Message as sent
use Rattle.vr_model.specs.Membership.{Membership}
use Rattle.vr_model.specs.Steps.{Input}
use Rattle.laws_pauses.specs.Pauses as pauses
use Rattle.laws_pauses.specs.Pauses.{DurableStep, AreDurable, all_handed, durable_after, durable_ends, surviving, written}
use Rattle.vr_pausing.specs.declared.marking.Marks.{Marks}
use Rattle.vr_pausing.specs.Bases.{IsBaseOf}
use Rattle.vr_replica.specs.declared.state.Replica.{Replica}
use Rattle.vr_resumed.specs.Resuming.{AllMean, GoesOn}
use Rattle.vr_durable.specs.declared.durable.Durable.{Durable}
use Rattle.vr_durable.specs.Standing.{WereSaid, Stands, TakesUp, HandsOut, Stays}

-- What is called of it, with what that leaves: an event is taken up, all that is held is handed out, or nothing; and at
-- any other call it stays as it was: a flush begins or is over, or a view was saved.
pub data Call : Type 0 where
  TookUp : (event : Event) (leaves : Durable) → Call
  HandedOut : (out : List sent.Message) (leaves : Durable) → Call
  Stayed : (leaves : Durable) → Call

-- each by its clause, from where the one before it ended
abbrev pub AreCalls : Durable → List Call → Type 0
AreCalls d [] = Unit {0}
AreCalls d (TookUp e new ∷ cs) = TakesUp d e new × AreCalls new cs
AreCalls d (HandedOut out new ∷ cs) = HandsOut d new out × AreCalls new cs
AreCalls d (Stayed new ∷ cs) = Stays d new × AreCalls new cs

abbrev pub left_by : Durable → List Call → Durable
left_by d [] = d
left_by d (TookUp e new ∷ cs) = left_by new cs
left_by d (HandedOut out new ∷ cs) = left_by new cs
left_by d (Stayed new ∷ cs) = left_by new cs

-- the events that were taken up, in order
abbrev pub events_in : List Call → List Event
events_in [] = []
events_in (TookUp e new ∷ cs) = e ∷ events_in cs
events_in (HandedOut out new ∷ cs) = events_in cs
events_in (Stayed new ∷ cs) = events_in cs

-- what was handed out, in order
abbrev pub out_of : List Call → List sent.Message
out_of [] = []
out_of (TookUp e new ∷ cs) = out_of cs
out_of (HandedOut out new ∷ cs) = out ++ out_of cs
out_of (Stayed new ∷ cs) = out_of cs

-- The calls are steps of a life of the law of pauses, and what they hand out is what leaves the machine in it.
pub record IsLife (m : Membership) (p : pauses.Durable Command Answer) (d : Durable) (cs : List Call) : Type 0 where
  pub steps : List (DurableStep Command Answer)
  pub right : AreDurable m.f m.number m.answer p steps
  pub stands : Stands (left_by d cs) m (durable_ends m.f m.number m.answer p steps)
  pub said : WereSaid m (out_of cs) (all_handed m.f m.number m.answer p steps)

-- whatever is called, whose events mean such inputs in the run
abbrev pub CallsAreALife : Type 0
CallsAreALife = (m : Membership) (p : pauses.Durable Command Answer) (d : Durable) (cs : List Call)
    (xs : List (Input Command Answer))
    → Stands d m p → AllMean m p.now (events_in cs) xs → AreCalls d cs → IsLife m p d cs

-- What is trusted of a disk: what is read behind a cut is the base that was flushed, and events that mean the inputs
-- which were flushed behind it, and those that survived of what was written since.
pub record ReadsBack (m : Membership) (p : pauses.Durable Command Answer) (survives : ℕ → Bool) (marks : Marks)
    (log : KeptLog) (es : List Event) : Type 0 where
  pub base : IsBaseOf marks log m p.base
  pub inputs : AllMean m p.base es (p.kept ++ surviving survives 0 (written p.unflushed))

-- who goes on from that, with nothing held, goes on in the same life: its power cut was a pause
abbrev pub CutsArePauses : Type 0
CutsArePauses = (m : Membership) (p : pauses.Durable Command Answer) (survives : ℕ → Bool) (core : Core) (marks : Marks)
    (log : KeptLog) (es : List Event) (replica : Replica) (d : Durable)
    → IsOf core m → ReadsBack m p survives marks log es → GoesOn core marks log es replica → d.replica ≡ replica
    → d.outbox.held ≡ []
    → Stands d m (durable_after m.f m.number m.answer p (pauses.PowerCut survives))
