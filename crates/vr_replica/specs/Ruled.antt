-- What the rules make of an event of a replica that is up.
use Rattle.std.specs.Prelude.{List, Result, Ok, Err}
use Rattle.std.specs.declared.alloc.AllocError.{AllocError}
use Rattle.std.specs.declared.alloc.Global.{Global}
use Rattle.std.specs.declared.vec.Vec.{Vec}
use Rattle.il_model.specs.declared.command.Command.{Command}
use Rattle.il_model.specs.declared.command.Answer.{Answer}
use Rattle.vr_model.specs.declared.event.Event.{Event}
use Rattle.vr_model.specs.declared.event.Event.TheVariants as event
use Rattle.vr_model.specs.declared.message.Body as body
use Rattle.vr_model.specs.declared.message.Message as code
use Rattle.vr_model.specs.Logs.{IsPrefix}
use Rattle.vr_model.specs.Membership.{Membership}
use Rattle.vr_model.specs.Messages.{Message}
use Rattle.vr_model.specs.Replicas.{ReplicaState, Outcome}
use Rattle.vr_model.specs.Rules as rules
use Rattle.vr_model.specs.World.{executed}
use Rattle.vr_model.specs.StandsFor.{Stands, AllStandFrom, Fits}
use Rattle.vr_core.specs.declared.state.Core.{Core}
use Rattle.vr_core.specs.StandsFor.{StandsFor, IsSavedAs, own_group}
use Rattle.vr_core.specs.Follows.{Rule, AreSaved, Loses, Does}

-- what the rule leaves of a replica that the old core stands for, and who is that then has sent these messages
pub record LeavesFrom (old new : Core) (messages : List code.Message) (w : Membership)
    (o : Outcome Command Answer) : Type 0 where
  pub replica : StandsFor new w o.replica
  pub saves : AreSaved old new o.saves
  pub sends : AllStandFrom IsSavedAs w.group o.replica messages o.sends

-- the call did what the rule says, for each replica whose executed entries the rule's log begins with, and for whose
-- log what is handed in fits
pub record FollowsFrom (old : Core) (handed : body.Body) (rule : Rule) (new : Core)
    (sends : List code.Message) : Type 0 where
  pub leaves : (w : Membership) (r : ReplicaState Command) → StandsFor old w r
      → IsPrefix (executed r) (rule w r).replica.log → Fits IsSavedAs w.group r (rule w r) handed
      → LeavesFrom old new sends w (rule w r)

-- the same, or nothing for want of memory
abbrev pub DoesFrom : Core → body.Body → Rule → Core → Result (Vec code.Message Global) AllocError → Type 0
DoesFrom old handed rule new (Ok sends) = FollowsFrom old handed rule new sends.items
DoesFrom old handed rule new (Err e) = Loses old rule new

-- the core did what the rules make of the event, or nothing for want of memory
abbrev pub Ruled : Core → Event → Core → Result (Vec code.Message Global) AllocError → Type 0
Ruled old (event.Message a) new result =
    (meant : Message Command Answer) → Stands IsSavedAs (own_group old) a meant
    → DoesFrom old a.body (λ w r. rules.receives w.f w.number w.answer r meant.from meant.body) new result
Ruled old event.Timeout new result = Does old (λ w r. rules.on_timeout w.f w.number w.answer r) new result
Ruled old event.Resend new result = Does old (λ w r. rules.on_resend w.f w.number w.answer r) new result
Ruled old (event.Restart x) new result = Does old (λ w r. rules.keep w.f w.number w.answer r) new result
