-- What a rule sends, by who is what the rule leaves.
use Rattle.std.proofs.Common.{◌≡◌, ℕ, List, [], ◌∷◌, Result, Ok, Err, Vec, Global, ap, sym, subst}
use Rattle.std.specs.Prelude.{IfOk}
use Rattle.std.specs.declared.alloc.AllocError.{AllocError}
use Rattle.il_model.specs.declared.command.Command.{Command}
use Rattle.il_model.specs.declared.command.Answer.{Answer}
use Rattle.vr_model.specs.declared.message.Body as body
use Rattle.vr_model.specs.declared.message.Body.TheVariants as says
use Rattle.vr_model.specs.declared.message.Message as sent
use Rattle.vr_model.specs.Logs.{Request, IsPrefix}
use Rattle.vr_model.specs.Membership.{Group, Membership}
use Rattle.vr_model.specs.Messages.{Body, Message}
use Rattle.vr_model.specs.Replicas.{ReplicaState, Outcome}
use Rattle.vr_model.specs.Steps.{Matters}
use Rattle.vr_model.specs.World.{executed}
use Rattle.vr_model.specs.StandsFor.{body_with, Stands, AllStand, IsOfOwn, AllStandFrom, Fits}
use Rattle.vr_core.specs.declared.state.Core.{Core}
use Rattle.vr_core.specs.StandsFor.{StandsFor, IsSavedAs}
use Rattle.vr_core.specs.Follows.{Rule, Leaves, Does, DoesIfKept, DoesIfFits}
use Rattle.vr_recovery.specs.Responses.{SendsOwn}
use Rattle.vr_replica.specs.Ruled.{LeavesFrom, DoesFrom}
use Rattle.vr_replica.proofs.NoState.{IsNoState, NoStates}

-- what is no NEWSTATE has no checkpoint that is to be its sender's own
of_own : (g : Group) (q : ReplicaState Command) (l : List (Request Command)) (b : body.Body) (x : Body Command Answer) → x ≡ body_with l b → IsNoState x → IsOfOwn IsSavedAs g q b x
of_own g q l (says.NewState v p c log) x e h = absurd (subst (λ (y : Body Command Answer). IsNoState y) e h)
of_own g q l _ x e h = tt

pub all_from : (g : Group) (q : ReplicaState Command) (xs : List sent.Message) (ms : List (Message Command Answer)) → AllStand IsSavedAs g xs ms → NoStates ms → AllStandFrom IsSavedAs g q xs ms
all_from g q [] [] h n = tt
all_from g q [] (m ∷ ms) h n = absurd h
all_from g q (x ∷ xs) [] h n = absurd h
all_from g q (x ∷ xs) (m ∷ ms) h n =
    let st : Stands IsSavedAs g x m = h.0 in
    (record { stands = st; own = of_own g q st.log x.body m.body (ap (λ (y : Message Command Answer). y.body) st.is) n.0 }, all_from g q xs ms h.1 n.1)

pub leaves_from : (old new : Core) (sends : List sent.Message) (w : Membership) (o : Outcome Command Answer) → Leaves old new sends w o → NoStates o.sends → LeavesFrom old new sends w o
leaves_from old new sends w o k n = record { replica = k.replica; saves = k.saves; sends = all_from w.group o.replica sends o.sends k.sends.are n }

-- a rule that sends none
module _ (old : Core) (handed : body.Body) (rule : Rule) (new : Core) (none : (w : Membership) (r : ReplicaState Command) → NoStates (rule w r).sends) where
  pub from_does : (result : Result (Vec sent.Message Global) AllocError) → Does old rule new result → DoesFrom old handed rule new result
  from_does (Ok sends) h = record { leaves = λ w r st prefix fits. leaves_from old new sends.items w (rule w r) (h.leaves w r st) (none w r) }
  from_does (Err e) h = h

  pub from_kept : (result : Result (Vec sent.Message Global) AllocError) → DoesIfKept old rule new result → DoesFrom old handed rule new result
  from_kept (Ok sends) h = record { leaves = λ w r st prefix fits. leaves_from old new sends.items w (rule w r) (h.leaves w r st prefix) (none w r) }
  from_kept (Err e) h = h

  pub from_fits : (result : Result (Vec sent.Message Global) AllocError) → DoesIfFits old handed rule new result → DoesFrom old handed rule new result
  from_fits (Ok sends) h = record { leaves = λ w r st prefix fits. leaves_from old new sends.items w (rule w r) (h.leaves w r st prefix fits) (none w r) }
  from_fits (Err e) h = h

-- a rule that sends one of its own, and changes nothing
pub from_own : (core : Core) (handed : body.Body) (rule : Rule) (result : Result (Vec sent.Message Global) AllocError) → Does core rule core result → IfOk result (λ sends. SendsOwn core rule sends.items)
    → ((w : Membership) (r : ReplicaState Command) → (rule w r).replica ≡ r) → DoesFrom core handed rule core result
from_own core handed rule (Ok sends) h own same = record {
  leaves = λ w r st prefix fits.
      let k : Leaves core core sends.items w (rule w r) = h.leaves w r st in
      record {
        replica = k.replica;
        saves = k.saves;
        sends = subst (λ (q : ReplicaState Command). AllStandFrom IsSavedAs w.group q sends.items (rule w r).sends) (sym (same w r)) (own.own w r st);
      };
}
from_own core handed rule (Err e) h own same = h

-- a rule that is another one, for each replica that the core stands for
pub from_as : (old : Core) (handed : body.Body) (rule other : Rule) (new : Core) (result : Result (Vec sent.Message Global) AllocError) → DoesFrom old handed rule new result
    → ((w : Membership) (r : ReplicaState Command) → StandsFor old w r → other w r ≡ rule w r) → DoesFrom old handed other new result
from_as old handed rule other new (Ok sends) h same = record {
  leaves = λ w r st prefix fits.
      subst (λ o. LeavesFrom old new sends.items w o) (sym (same w r st))
      (h.leaves w r st (subst (λ (o : Outcome Command Answer). IsPrefix (executed r) o.replica.log) (same w r st) prefix) (subst (λ (o : Outcome Command Answer). Fits IsSavedAs w.group r o handed) (same w r st) fits));
}
from_as old handed rule other new (Err e) h same = record { same = h.same; matters = λ w r st. subst (λ o. Matters r o) (sym (same w r st)) (h.matters w r st) }
