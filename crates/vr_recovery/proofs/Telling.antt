-- What the core's table of responses tells, and what it has of its log.
use Rattle.std.proofs.Common.{◌≡◌, ℕ, Bool, map, subst, ◌+◌, max, cond, List, [], ◌++◌, Option, Some, None, is_some, Result, Ok, Err, Bor, refl, ap, ap₂, add-one, ◌∙◌, sym}
use Rattle.std.specs.Prelude.{OnErr}
use Rattle.std.specs.Option.{option_copied}
use Rattle.il_model.specs.declared.command.Command.{Command}
use Rattle.vr_model.specs.declared.message.Message as sent
use Rattle.vr_model.specs.Groups.{group_size, how_many}
use Rattle.vr_model.specs.Membership.{Membership}
use Rattle.vr_model.specs.Messages.{Recovery}
use Rattle.vr_model.specs.Rules.{send_others}
use Rattle.vr_model.specs.Replicas.{ReplicaState}
use Rattle.vr_model.specs.Choices.{view_of, latest}
use Rattle.vr_model.specs.declared.message.Body.TheVariants as says
use Rattle.vr_model.specs.Choices.{others}
use Rattle.vr_model.specs.StandsFor.{AllStand}
use Rattle.vr_core.specs.declared.state.Core.{Core}
use Rattle.vr_core.specs.declared.state.Response.{Response}
use Rattle.vr_core.specs.StandsFor.{IsSavedAs}
use Rattle.vr_core.specs.Follows.{Tells, message_from}
use Rattle.vr_core.proofs.Sent.{sent_others}
use Rattle.vr_recovery.specs.Recovering.{IsUpAgain, ComesUp}

-- the same answer
pub told_by : {X : Type 0} (core : Core) (f : Membership → ReplicaState Command → X) (x y : X) → Tells core f x → x ≡ y → Tells core f y
told_by core f x y t e = record { tells = λ w r st. sym e ∙ t.tells w r st }

-- what always holds does after an error
pub on_err : {X E : Type 0} (r : Result X E) (P : Type 0) → P → OnErr r P
on_err (Ok x) P p = tt
on_err (Err e) P p = p

-- what is behind a reference is there or not as the reference is
pub copied_some : (o : Option (Bor Response)) → is_some (option_copied o) ≡ is_some o
copied_some None = refl
copied_some (Some b) = refl

-- Going over the group

-- what is told of the replicas below a number, at the size of the group
pub told_of_group : {X : Type 0} (core : Core) (f : ReplicaState Command → ℕ → X) (x : X) (n : ℕ) → Tells core (λ w r. f r n) x → n ≡ group_size core.config.f → Tells core (λ w r. f r (group_size w.f)) x
told_of_group core f x n t e = record { tells = λ w r st. t.tells w r st ∙ ap (f r) (e ∙ ap group_size (sym st.member.f)) }

-- one more replica is counted
pub one_counted : (core : Core) (n : ℕ) (b : Bool) (count more : ℕ) → Tells core (λ w r. how_many (λ s. is_some (r.responses s)) n) count → Tells core (λ w r. is_some (r.responses n)) b
    → more ≡ cond b 1 0 + count → Tells core (λ w r. how_many (λ s. is_some (r.responses s)) (n + 1)) more
one_counted core n b count more below here is = record {
  tells = λ w r st.
      is
      ∙ ap₂ (λ b k. cond {A = ℕ} b 1 0 + k) (here.tells w r st) (below.tells w r st)
      ∙ ap (how_many (λ s. is_some (r.responses s))) (sym (add-one n));
}

-- the view that one more replica told
pub one_later : (core : Core) (n view latest_below : ℕ) → Tells core (λ w r. latest r.responses n) latest_below → Tells core (λ w r. view_of (r.responses n)) view → Tells core (λ w r. latest r.responses (n + 1)) (max view latest_below)
one_later core n view latest_below below here = record {
  tells = λ w r st. ap₂ max (here.tells w r st) (below.tells w r st) ∙ ap (latest r.responses) (sym (add-one n));
}

-- It asks all others

pub comes_up : (old begun : Core) (stored nonce : ℕ) (before sends : List sent.Message) → IsUpAgain old stored nonce begun → before ≡ []
    → sends ≡ before ++ map (message_from begun.number (says.Recovery nonce stored)) (others begun.number (group_size begun.config.f)) → ComesUp old stored nonce begun sends
comes_up old begun stored nonce before sends up none is = record {
  stands = up.stands;
  asks = λ w m.
      let st = up.stands w m in
      let asked = map (message_from begun.number (says.Recovery nonce stored)) (others begun.number (group_size begun.config.f)) in
      subst (λ (ms : List sent.Message). AllStand IsSavedAs w.group ms (send_others w.f w.number w.answer (Recovery nonce stored))) (sym (is ∙ ap (λ (ms : List sent.Message). ms ++ asked) none))
      (sent_others w begun.number begun.config.f (says.Recovery nonce stored) [] st.member.number st.member.f tt).are;
}
