-- Messages that are dropped, and those of the sub-protocols.
use Rattle.std.proofs.Common.{◌≡◌, ℕ, ◌<◌, Bool, true, false, cond, not, ◌&&◌, ltb, leb, eqb, lt-ltb, List, [], length, None, Result, Ok, Vec, Global, refl, ap, ◌∙◌}
use Rattle.std.specs.declared.alloc.AllocError.{AllocError}
use Rattle.il_model.specs.declared.command.Command.{Command}
use Rattle.il_model.specs.declared.command.Answer.{Answer}
use Rattle.vr_model.specs.declared.message.Body.{Body}
use Rattle.vr_model.specs.declared.message.Body.TheVariants as says
use Rattle.vr_model.specs.declared.message.Message as sent
use Rattle.vr_model.specs.declared.message.Party.{Party}
use Rattle.vr_model.specs.declared.message.Party.TheVariants as party
use Rattle.vr_model.specs.declared.message.Request.{Request}
use Rattle.vr_model.specs.declared.client.ClientNumber.{ClientNumber}
use Rattle.vr_model.specs.Groups.{group_size, client_count}
use Rattle.vr_model.specs.Logs as logs
use Rattle.vr_model.specs.Messages as messages
use Rattle.vr_model.specs.Protocols.{Recovery, protocol_of}
use Rattle.vr_model.specs.Membership.{Membership}
use Rattle.vr_model.specs.Replicas.{ReplicaState, Outcome, is_normal}
use Rattle.vr_model.specs.Rules as rules
use Rattle.vr_model.specs.StandsFor.{body_with, party_of}
use Rattle.vr_core.specs.declared.state.Core.{Core}
use Rattle.vr_core.specs.Follows.{FollowsIfKept, DoesIfKept, receives_from}
use Rattle.vr_core.proofs.Doing.{does_keep}
use Rattle.vr_core.proofs.Keeping.{kept_of}
use Rattle.vr_replica.specs.Ruled.{DoesFrom}
use Rattle.vr_replica.proofs.NoState.{IsNoGetState, NoStates, client_sends_none, replica_sends_none}
use Rattle.vr_replica.proofs.Sending.{from_kept, from_as}

-- GETSTATE of any replica changes nothing
pub asking_keeps : (w : Membership) (r : ReplicaState Command) (s u p : ℕ) → (receives_from s (messages.GetState u p) w r).replica ≡ r
asking_keeps w r s u p = go (ltb s (group_size w.f) && not (eqb s w.number)) (is_normal r.status && eqb r.view u && leb p (length r.log)) _
  where
    go : (a b : Bool) (sends : List (messages.Message Command Answer)) → (cond a (cond b (let o : Outcome Command Answer = record { replica = r; saves = None; sends = sends } in o) (rules.keep w.f w.number w.answer r)) (rules.keep w.f w.number w.answer r)).replica ≡ r
    go true true sends = refl
    go true false sends = refl
    go false b sends = refl

-- a message of a client
pub of_client : (core : Core) (handed : Body) (from : Party) (c : ClientNumber) (body : messages.Body Command Answer) (new : Core) (result : Result (Vec sent.Message Global) AllocError) → from ≡ party.Client c → c.number < client_count
    → DoesIfKept core (λ w r. rules.from_client w.f w.number w.answer r body) new result → DoesFrom core handed (λ w r. rules.receives w.f w.number w.answer r (party_of from) body) new result
of_client core handed from c body new result is low h =
    from_as core handed (λ w r. rules.from_client w.f w.number w.answer r body) (λ w r. rules.receives w.f w.number w.answer r (party_of from) body) new result
    (from_kept core handed (λ w r. rules.from_client w.f w.number w.answer r body) new (λ w r. client_sends_none w.f w.number w.answer r body) result h) (λ w r st.
    ap (λ p. rules.receives w.f w.number w.answer r (party_of p) body) is
    ∙ ap (λ t. cond t (rules.from_client w.f w.number w.answer r body) (rules.keep w.f w.number w.answer r)) (lt-ltb c.number client_count low))

module _ (f i : ℕ) (answer : List Command → Answer) (r : ReplicaState Command) where
  -- what is no request
  no_request : (l : List (logs.Request Command)) (body : Body) → ((m : Request) → body ≡ says.Request m → ⊥) → rules.from_client f i answer r (body_with l body) ≡ rules.keep f i answer r
  no_request l (says.Request m) other = absurd (other m refl)
  no_request l (says.Prepare v m p c) other = refl
  no_request l (says.PrepareOk v p) other = refl
  no_request l (says.Commit v c) other = refl
  no_request l (says.Reply v number a) other = refl
  no_request l (says.StartViewChange v) other = refl
  no_request l (says.DoViewChange v last c log) other = refl
  no_request l (says.StartView v c log) other = refl
  no_request l (says.Recovery x w) other = refl
  no_request l (says.RecoveryResponse v x state) other = refl
  no_request l (says.GetState v p) other = refl
  no_request l (says.NewState v p c log) other = refl

pub not_from_client : (core : Core) (l : List (logs.Request Command)) (body : Body) (sends : Vec sent.Message Global) → ((m : Request) → body ≡ says.Request m → ⊥) → sends.items ≡ [] → FollowsIfKept core (λ w r. rules.from_client w.f w.number w.answer r (body_with l body)) core sends.items
not_from_client core l body sends other none =
    kept_of core (λ w r. rules.from_client w.f w.number w.answer r (body_with l body)) core (Ok sends)
    (does_keep core (λ w r. rules.from_client w.f w.number w.answer r (body_with l body)) sends none (λ w r st. no_request w.f w.number w.answer r l body other))

-- only a message of recovery asks for a part of a log
pub asks_in_recovery : (l : List (logs.Request Command)) (body : Body) → (protocol_of body ≡ Recovery → ⊥) → IsNoGetState (body_with l body)
asks_in_recovery l (says.Request m) other = tt
asks_in_recovery l (says.Prepare v m p c) other = tt
asks_in_recovery l (says.PrepareOk v p) other = tt
asks_in_recovery l (says.Commit v c) other = tt
asks_in_recovery l (says.Reply v number a) other = tt
asks_in_recovery l (says.StartViewChange v) other = tt
asks_in_recovery l (says.DoViewChange v last c log) other = tt
asks_in_recovery l (says.StartView v c log) other = tt
asks_in_recovery l (says.Recovery x w) other = tt
asks_in_recovery l (says.RecoveryResponse v x state) other = tt
asks_in_recovery l (says.GetState v p) other = absurd (other refl)
asks_in_recovery l (says.NewState v p c log) other = tt

-- a message that is dropped, or has its rule, sends none
pub sender_sends_none : (w : Membership) (r : ReplicaState Command) (s : ℕ) (body : messages.Body Command Answer) → IsNoGetState body → NoStates (receives_from s body w r).sends
sender_sends_none w r s body other = go (ltb s (group_size w.f) && not (eqb s w.number))
  where
    go : (b : Bool) → NoStates (cond b (rules.from_replica w.f w.number w.answer r s body) (rules.keep w.f w.number w.answer r)).sends
    go true = replica_sends_none w.f w.number w.answer r s body other
    go false = tt

-- a request or a reply of a replica is dropped
pub not_a_sender : (core : Core) (s : ℕ) (body : messages.Body Command Answer) (sends : Vec sent.Message Global) → ((w : Membership) (r : ReplicaState Command) → rules.from_replica w.f w.number w.answer r s body ≡ rules.keep w.f w.number w.answer r) → sends.items ≡ []
    → FollowsIfKept core (receives_from s body) core sends.items
not_a_sender core s body sends keeps none = kept_of core (receives_from s body) core (Ok sends) (does_keep core (receives_from s body) sends none (λ w r st. go w r (ltb s (group_size w.f) && not (eqb s w.number))))
  where
    go : (w : Membership) (r : ReplicaState Command) (b : Bool) → cond b (rules.from_replica w.f w.number w.answer r s body) (rules.keep w.f w.number w.answer r) ≡ rules.keep w.f w.number w.answer r
    go w r true = keeps w r
    go w r false = refl

-- a message of another sub-protocol
pub not_of_recovery : (core : Core) (l : List (logs.Request Command)) (s : ℕ) (body : Body) (new : Core) (result : Result (Vec sent.Message Global) AllocError) → (protocol_of body ≡ Recovery → ⊥)
    → DoesIfKept core (receives_from s (body_with l body)) new result → DoesFrom core body (receives_from s (body_with l body)) new result
not_of_recovery core l s body new result other h =
    from_kept core body (receives_from s (body_with l body)) new (λ w r. sender_sends_none w r s (body_with l body) (asks_in_recovery l body other)) result h
