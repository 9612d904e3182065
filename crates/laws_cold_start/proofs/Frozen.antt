-- None of f+1 replicas that recover, and are handed no answer to their nonces, takes part again.
use Rattle.std.proofs.Common.{◌≡◌, ℕ, zero, suc, ◌+◌, ◌<◌, Bool, true, false, cond, not, ◌==◌, leb, ltb, ◌&&◌, List, [], ◌∷◌, ◌++◌, length, take, Some, arith, refl, sym, ap, ◌∙◌, subst, ◌⊎◌, inl, inr}
use Rattle.std.specs.Prelude.{slice_get, is_some}
use Rattle.std.proofs.lemmas.Bool.{leb-true, eqb-true, and_parts}
use Rattle.std.proofs.lemmas.Grind.{common_steps}
use Rattle.vr_model.specs.Logs.{Request}
use Rattle.vr_model.specs.Groups.{group_size, primary, how_many, client_count, IsQuorum}
use Rattle.vr_model.specs.Messages.{RecoveryResponse, Party, Replica, Client, Body, RequestMessage, Prepare, PrepareOk, Commit, Reply, StartViewChange, DoViewChangeMessage, StartView, Recovery, RecoveryResponseMessage, GetState, NewState, Message}
use Rattle.vr_model.specs.Replicas.{Status, Normal, ViewChange, Recovering, Down, is_normal, is_recovering, takes_part, is_down, ReplicaState, Outcome, put}
use Rattle.vr_model.specs.Choices.{others, kept_response, latest, state_of}
use Rattle.vr_model.specs.Rules.{keep, recovers, recovers_with, on_recovery_response, on_restart, from_replica, from_client, receives}
use Rattle.vr_model.specs.World.{World, Event, Completion, Done, Lost, down, Ending, Went, SaveFailed, Effect, effect, happens, run, start}
use Rattle.vr_model.specs.Steps.{Input, Takes, TimesOut, Resends, by_rule}
use Rattle.laws_cold_start.specs.ColdStarts.{HandsAnswer, AreFrozen, TakeNoPart}
use Rattle.vr_model.specs.Views.{world}
use Rattle.laws_cold_start.proofs.Statuses.{only_recovering, recovers_not_down, normal_is_part}
use Rattle.laws_cold_start.proofs.Tables.{put_same, put_cases, share}
use Rattle.laws_cold_start.proofs.Cases.{IsRequest, AllRequests, Came, at_effect, case_by_case}
use Rattle.laws_cold_start.proofs.Calm.{OfReplica, Quiet, Asked, Heard, said_by_rule, at_map}

-- Nonces in messages were used by who asked. To a nonce that wasn't used at first none of those answers.
abbrev pub Says : {C A : Type 0} → (ℕ → ℕ → Bool) → (ℕ → ℕ → Bool) → (ℕ → Bool) → Party → Party → Body C A → Type 0
Says used first who from to (Recovery x v) = OfReplica from (λ s. used s x ≡ true)
Says used first who from to (RecoveryResponseMessage x a) =
    OfReplica to (λ t. (used t x ≡ true) × (first t x ≡ false → OfReplica from (λ s. who s ≡ false)))
Says used first who from to _ = Unit {0}

abbrev pub MessageSays : {C A : Type 0} → (ℕ → ℕ → Bool) → (ℕ → ℕ → Bool) → (ℕ → Bool) → Message C A → Type 0
MessageSays used first who m = Says used first who m.from m.to m.body

abbrev pub AllSay : {C A : Type 0} → (ℕ → ℕ → Bool) → (ℕ → ℕ → Bool) → (ℕ → Bool) → List (Message C A) → Type 0
AllSay used first who ms = (k : ℕ) (m : _) → slice_get ms k ≡ Some m → MessageSays used first who m

-- one of them: it recovers under its nonce, or under one that wasn't used at first, answered by others alone
pub record Later {C : Type 0} (first : ℕ → ℕ → Bool) (who : ℕ → Bool) (i : ℕ) (r : ReplicaState C) : Type 0 where
  pub new : first i r.nonce ≡ false
  pub others : (s : ℕ) → is_some (r.responses s) ≡ true → who s ≡ false

pub record Out {C : Type 0} (first : ℕ → ℕ → Bool) (who : ℕ → Bool) (nonces : ℕ → ℕ) (i : ℕ) (r : ReplicaState C) : Type 0 where
  pub part : takes_part r.status ≡ false
  pub under : is_recovering r.status ≡ true → (r.nonce ≡ nonces i) ⊎ Later first who i r

pub record Holds {C A : Type 0} (f : ℕ) (first : ℕ → ℕ → Bool) (who : ℕ → Bool) (nonces : ℕ → ℕ) (standing : ℕ → ReplicaState C) (stores : ℕ → ℕ)
    (used : ℕ → ℕ → Bool) (messages : List (Message C A)) (order : List (Request C)) : Type 0 where
  pub replicas : (i : ℕ) → is_recovering (standing i).status ≡ true → used i (standing i).nonce ≡ true
  pub sent : AllSay used first who messages
  pub since : (i x : ℕ) → first i x ≡ true → used i x ≡ true
  pub out : (i : ℕ) → i < group_size f → who i ≡ true → Out first who nonces i (standing i)

-- lists of messages
pub at_append : {X : Type 0} (P : X → Type 0) (xs ys : List X) → ((k : ℕ) (m : X) → slice_get xs k ≡ Some m → P m) → ((k : ℕ) (m : X) → slice_get ys k ≡ Some m → P m)
    → (k : ℕ) (m : X) → slice_get (xs ++ ys) k ≡ Some m → P m
at_append P [] ys a b k m e = b k m e
at_append P (x ∷ xs) ys a b zero m e = a zero m e
at_append P (x ∷ xs) ys a b (suc k) m e = at_append P xs ys (λ j. a (suc j)) b k m e

quiet_says : {C A : Type 0} (used first : ℕ → ℕ → Bool) (who : ℕ → Bool) (from to : Party) (b : Body C A) → Quiet b → Says used first who from to b
quiet_says used first who from to (Recovery x v) q = absurd q
quiet_says used first who from to (RecoveryResponseMessage x a) q = absurd q
quiet_says used first who from to _ q = tt

requests_say : {C A : Type 0} (used first : ℕ → ℕ → Bool) (who : ℕ → Bool) (ms : List (Message C A)) → AllRequests ms → AllSay used first who ms
requests_say used first who [] all k m e = absurd cc
requests_say {C} {A} used first who (x ∷ xs) all zero m e = let same : x ≡ m = cc in subst (λ (y : Message C A). MessageSays used first who y) same (go x.body all.0)
  where
    go : (b : Body C A) → IsRequest b → Says used first who x.from x.to b
    go (RequestMessage q) k = tt
    go (Prepare u q p c) k = tt
    go (PrepareOk u p) k = tt
    go (Commit u c) k = tt
    go (Reply u q a) k = tt
    go (StartViewChange u) k = tt
    go (DoViewChangeMessage u a) k = tt
    go (StartView u c log) k = tt
    go (Recovery y w) k = absurd k
    go (RecoveryResponseMessage y a) k = absurd k
    go (GetState u p) k = tt
    go (NewState u p c log) k = tt
requests_say used first who (x ∷ xs) all (suc k) m e = requests_say used first who xs all.1 k m e

-- of more nonces
says_more : {C A : Type 0} (used more first : ℕ → ℕ → Bool) (who : ℕ → Bool) → ((j x : ℕ) → used j x ≡ true → more j x ≡ true)
    → (from to : Party) (b : Body C A) → Says used first who from to b → Says more first who from to b
says_more used more first who grow (Replica s) to (Recovery x v) k = grow s x k
says_more used more first who grow (Client c) to (Recovery x v) k = tt
says_more used more first who grow from (Replica t) (RecoveryResponseMessage x a) k = (grow t x k.0, k.1)
says_more used more first who grow from (Client c) (RecoveryResponseMessage x a) k = tt
says_more used more first who grow from to (RequestMessage q) k = tt
says_more used more first who grow from to (Prepare u q p c) k = tt
says_more used more first who grow from to (PrepareOk u p) k = tt
says_more used more first who grow from to (Commit u c) k = tt
says_more used more first who grow from to (Reply u q a) k = tt
says_more used more first who grow from to (StartViewChange u) k = tt
says_more used more first who grow from to (DoViewChangeMessage u a) k = tt
says_more used more first who grow from to (StartView u c log) k = tt
says_more used more first who grow from to (GetState u p) k = tt
says_more used more first who grow from to (NewState u p c log) k = tt

-- A replica that recovers stays as it is, but by an answer to its nonce.
same_if : {C A : Type 0} (o : Outcome C A) (b : Bool) (x y : Outcome C A) → x ≡ o → y ≡ o → cond b x y ≡ o
same_if o true x y first second = first
same_if o false x y first second = second

abbrev pub IsAnswer : {C A : Type 0} → Body C A → Type 0
IsAnswer (RecoveryResponseMessage x a) = Unit {0}
IsAnswer _ = ⊥

module _ {C A : Type 0} (f i : ℕ) (answer : List C → A) where
  stays_from_replica : (r : ReplicaState C) (s : ℕ) (b : Body C A) → (IsAnswer b → ⊥) → (from_replica f i answer (record r { status = Recovering }) s b) ≡ keep f i answer (record r { status = Recovering })
  stays_from_replica r s (RequestMessage m) other = refl
  stays_from_replica r s (Prepare u m p c) other = refl
  stays_from_replica r s (PrepareOk u p) other = refl
  stays_from_replica r s (Commit u c) other = refl
  stays_from_replica r s (Reply u m a) other = refl
  stays_from_replica r s (StartViewChange u) other = refl
  stays_from_replica r s (DoViewChangeMessage u a) other = refl
  stays_from_replica r s (StartView u c log) other = refl
  stays_from_replica r s (Recovery x w) other = refl
  stays_from_replica r s (RecoveryResponseMessage x a) other = absurd (other tt)
  stays_from_replica r s (GetState u p) other = refl
  stays_from_replica r s (NewState u p c log) other = refl

  stays_from_client : (r : ReplicaState C) (b : Body C A) → (from_client f i answer (record r { status = Recovering }) b) ≡ keep f i answer (record r { status = Recovering })
  stays_from_client r (RequestMessage m) = refl
  stays_from_client r _ = refl

  pub stays_receives : (r : ReplicaState C) (from : Party) (b : Body C A) → (IsAnswer b → ⊥) → (receives f i answer (record r { status = Recovering }) from b) ≡ keep f i answer (record r { status = Recovering })
  stays_receives r (Replica s) b other = let q : ReplicaState C = record r { status = Recovering } in
      same_if (keep f i answer q) (ltb s (group_size f) && not (s == i)) (from_replica f i answer q s b) (keep f i answer q) (stays_from_replica r s b other) refl
  stays_receives r (Client c) b other = let q : ReplicaState C = record r { status = Recovering } in
      same_if (keep f i answer q) (ltb c client_count) (from_client f i answer q b) (keep f i answer q) (stays_from_client r b) refl

  -- fewer than f+1 have answered
  stays_recovers : (r : ReplicaState C) → (leb (f + 1) (how_many (λ s. is_some (r.responses s)) (group_size f)) ≡ false) → (recovers f i answer r).replica ≡ r
  stays_recovers r e = go (leb (f + 1) (how_many (λ s. is_some (r.responses s)) (group_size f))) e
    where
      w : ℕ
      w = latest r.responses (group_size f)

      go : (b : Bool) → b ≡ false → (cond (b && leb r.stored_view w) (recovers_with f i answer r w (state_of w (r.responses (primary f w)))) (keep f i answer r)).replica ≡ r
      go true e = absurd cc
      go false e = refl

few : (f : ℕ) (who test : ℕ → Bool) → IsQuorum f who → ((s : ℕ) → test s ≡ true → who s ≡ false) → leb (f + 1) (how_many test (group_size f)) ≡ false
few f who test big apart = go (leb (f + 1) (how_many test (group_size f))) refl
  where
    go : (b : Bool) → leb (f + 1) (how_many test (group_size f)) ≡ b → b ≡ false
    go false e = refl
    go true e =
        let s = share who test (group_size f) (omega (arith, big, leb-true _ _ e)) in
        let out : who s.0 ≡ false = apart s.0 s.3 in absurd (let c : true ≡ false = sym s.2 ∙ out in cc)

pub both_ways : (b : Bool) → b ≡ true → b ≡ false → ⊥
both_ways true a b = absurd cc
both_ways false a b = absurd cc

module _ {C A : Type 0} (f : ℕ) (answer : List C → A) (first : ℕ → ℕ → Bool) (who : ℕ → Bool) (nonces : ℕ → ℕ) where
  -- one that recovers takes an answer
  out_answered : (i : ℕ) (r : ReplicaState C) (s x : ℕ) (a : RecoveryResponse C) → IsQuorum f who → is_recovering r.status ≡ true → Out first who nonces i r
      → (r.nonce ≡ x → x ≡ nonces i → ⊥) → (first i x ≡ false → who s ≡ false) → Out first who nonces i (on_recovery_response {A = A} f i answer r s x a).replica
  out_answered i r s x a big e out handed from = go (is_recovering r.status && (r.nonce == x)) refl
    where
      q : ReplicaState C
      q = record r { responses = put r.responses s (Some (kept_response (r.responses s) a)) }

      later : r.nonce ≡ x → Later first who i q
      later same = elim (out.under e) [
        | inl own ↦ absurd (handed same (sym same ∙ own))
        | inr l ↦ record {
          new = l.new;
          others = λ t. put_cases r.responses s (Some (kept_response (r.responses s) a)) t (λ b. is_some b ≡ true → who t ≡ false)
              (λ d k. subst (λ y. who y ≡ false) (sym d) (from (subst (λ y. first i y ≡ false) same l.new))) (λ d k. l.others t k);
        }
      ]

      go : (b : Bool) → (is_recovering r.status && (r.nonce == x)) ≡ b → Out first who nonces i (cond b (recovers {A = A} f i answer q) (keep f i answer r)).replica
      go true k =
          let p = and_parts (is_recovering r.status) (r.nonce == x) k in
          let l : Later first who i q = later (eqb-true _ _ p.1) in
          subst (Out first who nonces i) (sym (stays_recovers {A = A} f i answer q (few f who (λ t. is_some (q.responses t)) big l.others)))
          (record { part = out.part; under = λ d. inr l })
      go false k = out

  -- one that recovers takes something up; what answers its nonce isn't handed to it
  out_takes : (i : ℕ) (r : ReplicaState C) (m : Message C A) → IsQuorum f who → is_recovering r.status ≡ true → Out first who nonces i r
      → ((x : ℕ) (a : RecoveryResponse C) → m.body ≡ RecoveryResponseMessage x a → r.nonce ≡ x → x ≡ nonces i → ⊥)
      → ((x s : ℕ) (a : RecoveryResponse C) → m.body ≡ RecoveryResponseMessage x a → m.from ≡ Replica s → first i x ≡ false → who s ≡ false)
      → Out first who nonces i (receives f i answer r m.from m.body).replica
  out_takes i r m big e out handed from = go m.from m.body refl refl
    where
      recovers_now : r ≡ record r { status = Recovering }
      recovers_now = ap (λ t. record r { status = t }) (only_recovering r.status e)

      as_before : (p : Party) (b : Body C A) → (IsAnswer b → ⊥) → Out first who nonces i (receives f i answer r p b).replica
      as_before p b other = subst (Out first who nonces i) (sym (ap (λ (q : ReplicaState C). (receives f i answer q p b).replica) recovers_now ∙ ap (λ (o : Outcome C A). o.replica) (stays_receives f i answer r p b other) ∙ sym recovers_now)) out

      out_if : (b : Bool) (x y : Outcome C A) → Out first who nonces i x.replica → Out first who nonces i y.replica → Out first who nonces i (cond b x y).replica
      out_if true x y p q = p
      out_if false x y p q = q

      go : (p : Party) (b : Body C A) → m.from ≡ p → m.body ≡ b → Out first who nonces i (receives f i answer r p b).replica
      go (Replica s) (RecoveryResponseMessage x a) is body = out_if (ltb s (group_size f) && not (s == i)) (on_recovery_response f i answer r s x a) (keep f i answer r)
          (out_answered i r s x a big e out (handed x a body) (from x s a body is)) out
      go (Client c) (RecoveryResponseMessage x a) is body = out_if (ltb c client_count) (keep f i answer r) (keep f i answer r) out out
      go p (RequestMessage q) is body = as_before p (RequestMessage q) (λ k. k)
      go p (Prepare u q o c) is body = as_before p (Prepare u q o c) (λ k. k)
      go p (PrepareOk u o) is body = as_before p (PrepareOk u o) (λ k. k)
      go p (Commit u c) is body = as_before p (Commit u c) (λ k. k)
      go p (Reply u q a) is body = as_before p (Reply u q a) (λ k. k)
      go p (StartViewChange u) is body = as_before p (StartViewChange u) (λ k. k)
      go p (DoViewChangeMessage u a) is body = as_before p (DoViewChangeMessage u a) (λ k. k)
      go p (StartView u c log) is body = as_before p (StartView u c log) (λ k. k)
      go p (Recovery y w) is body = as_before p (Recovery y w) (λ k. k)
      go p (GetState u o) is body = as_before p (GetState u o) (λ k. k)
      go p (NewState u o c log) is body = as_before p (NewState u o c log) (λ k. k)

  -- what the event hands none of those
  abbrev IsUnanswered : World C A → Event C → Completion → Type 0
  IsUnanswered w e c = (i : ℕ) → i < group_size f → who i ≡ true → c ≡ Done → HandsAnswer w e i (nonces i) → ⊥

  abbrev pub HoldsIn : World C A → Type 0
  HoldsIn w = Holds f first who nonces w.replicas w.stores w.used w.sent w.order

  by_ending : (Q : ReplicaState C → Type 0) (r : ReplicaState C) (stored : ℕ) (o : Outcome C A) (ending : Ending) → Q r → Q (down r) → (ending ≡ Went Done → Q o.replica) → Q (effect r stored o ending).replica
  by_ending Q r stored o (Went Done) a b c = c refl
  by_ending Q r stored o (Went (Lost saved)) a b c = a
  by_ending Q r stored o (SaveFailed k) a b c = b

  sends_by_ending : (Q : Message C A → Type 0) (r : ReplicaState C) (stored : ℕ) (o : Outcome C A) (ending : Ending) → ((k : ℕ) (m : Message C A) → slice_get o.sends k ≡ Some m → Q m)
      → (k : ℕ) (m : Message C A) → slice_get (effect r stored o ending).sends k ≡ Some m → Q m
  sends_by_ending Q r stored o (Went Done) all k m e = all k m e
  sends_by_ending Q r stored o (Went (Lost saved)) all k m e = absurd cc
  sends_by_ending Q r stored o (SaveFailed b) all k m e = absurd cc

  module _ (w : World C A) (e : Event C) (c : Completion) (big : (i : ℕ) → who i ≡ true → IsQuorum f who) (h : HoldsIn w) (free : IsUnanswered w e c) where
    abbrev heard : ℕ → ℕ → Type 0
    heard s x = w.used s x ≡ true

    asked_by : (p t : Party) (b : Body C A) → Says w.used first who p t b → Asked f 0 answer heard p b
    asked_by p t (Recovery x v) k = k
    asked_by p t (RequestMessage q) k = tt
    asked_by p t (Prepare u q o d) k = tt
    asked_by p t (PrepareOk u o) k = tt
    asked_by p t (Commit u d) k = tt
    asked_by p t (Reply u q a) k = tt
    asked_by p t (StartViewChange u) k = tt
    asked_by p t (DoViewChangeMessage u a) k = tt
    asked_by p t (StartView u d log) k = tt
    asked_by p t (RecoveryResponseMessage x a) k = tt
    asked_by p t (GetState u o) k = tt
    asked_by p t (NewState u o d log) k = tt

    came_heard : (i : ℕ) (input : Input C A) → Came w e i input → Heard f i answer heard input
    came_heard i (Takes m) came = asked_by m.from m.to m.body (h.sent came.0 m came.2)
    came_heard i TimesOut came = tt
    came_heard i Resends came = tt

    not_who : (i : ℕ) → i < group_size f → is_normal (w.replicas i).status ≡ true → who i ≡ false
    not_who i l e = go (who i) refl
      where
        go : (b : Bool) → who i ≡ b → b ≡ false
        go false k = refl
        go true k = absurd (both_ways _ (normal_is_part _ e) (h.out i l k).part)

    -- one of those takes a step
    out_steps : (i : ℕ) (input : Input C A) → i < group_size f → who i ≡ true → is_down (w.replicas i).status ≡ false → Came w e i input → c ≡ Done → Out first who nonces i (by_rule f i answer (w.replicas i) input).replica
    out_steps i (Takes m) l is up came done =
        let old = h.out i l is in
        out_takes i (w.replicas i) m (big i is) (recovers_not_down _ old.part up) old
        (λ x a body under same. free i l is done (record {
          message = came.0;
          from = m.from;
          response = a;
          event_is = came.1;
          is = subst (λ (b : Body C A). slice_get w.sent came.0 ≡ Some (record { from = m.from; to = Replica i; body = b })) (body ∙ ap (λ y. RecoveryResponseMessage y a) same)
              (subst (λ t. slice_get w.sent came.0 ≡ Some (record { from = m.from; to = t; body = m.body })) came.3 came.2);
          recovers = (recovers_not_down _ old.part up, under ∙ same);
        }))
        (λ x s a body p new.
        let says : Says w.used first who m.from m.to m.body = h.sent came.0 m came.2 in
        let so : Says {A = A} w.used first who (Replica s) (Replica i) (RecoveryResponseMessage x a) = subst (λ (b : Body C A). Says w.used first who (Replica s) (Replica i) b) body
        (subst (λ t. Says w.used first who (Replica s) t m.body) came.3 (subst (λ q. Says w.used first who q m.to m.body) p says)) in
        so.1 new)
    out_steps i TimesOut l is up came done =
        let old = h.out i l is in
        let now = only_recovering _ (recovers_not_down _ old.part up) in
        let r : ReplicaState C = w.replicas i in
        let input : Input C A = TimesOut in
        subst (λ (q : ReplicaState C). Out first who nonces i (by_rule f i answer q input).replica) (sym (ap (λ t. record r { status = t }) now)) (subst (λ t. Out first who nonces i (record r { status = t })) now old)
    out_steps i Resends l is up came done = h.out i l is

    acts : (i : ℕ) (input : Input C A) (ending : Ending) → i < group_size f → is_down (w.replicas i).status ≡ false → Came w e i input → (ending ≡ Went Done → c ≡ Done)
        → at_effect f answer w (Holds f first who nonces) w.used i (effect (w.replicas i) (w.stores i) (by_rule f i answer (w.replicas i) input) ending)
    acts i input ending l up came done =
        let r : ReplicaState C = w.replicas i in
        let o : Outcome C A = by_rule f i answer r input in
        let t : Effect C A = effect r (w.stores i) o ending in
        let said = said_by_rule f i answer r heard input (came_heard i input came) in
        record {
          replicas = λ j. put_cases w.replicas i t.replica j (λ q. is_recovering q.status ≡ true → w.used j q.nonce ≡ true)
              (λ same. by_ending (λ q. is_recovering q.status ≡ true → w.used j q.nonce ≡ true) r (w.stores i) o ending
              (λ k. subst (λ y. w.used y r.nonce ≡ true) (sym same) (h.replicas i k)) (λ k. absurd cc)
              (λ d k. subst (λ y. w.used j y ≡ true) (sym said.nonce) (subst (λ y. w.used y r.nonce ≡ true) (sym same) (h.replicas i (said.recovering k)))))
              (λ apart. h.replicas j);
          sent = at_append (MessageSays w.used first who) w.sent t.sends h.sent
              (sends_by_ending (MessageSays w.used first who) r (w.stores i) o ending
              (said.sends (MessageSays w.used first who) (λ m q. quiet_says w.used first who m.from m.to m.body q) (λ to k. h.replicas i k) (λ s x a k d. (d, λ new. not_who i l k))));
          since = h.since;
          out = λ j within is. put_cases w.replicas i t.replica j (Out first who nonces j)
              (λ same. subst (λ y. Out first who nonces y t.replica) (sym same)
              (let mine : who i ≡ true = subst (λ y. who y ≡ true) same is in
              by_ending (Out first who nonces i) r (w.stores i) o ending (h.out i l mine) (record { part = refl; under = λ k. absurd cc }) (λ d. out_steps i input l mine up came (done d))))
              (λ apart. h.out j within is);
        }

    crashes : (i : ℕ) → i < group_size f → at_effect f answer w (Holds f first who nonces) w.used i (record { replica = down (w.replicas i); store = w.stores i; sends = [] })
    crashes i l = record {
      replicas = λ j. put_cases w.replicas i (down (w.replicas i)) j (λ q. is_recovering q.status ≡ true → w.used j q.nonce ≡ true) (λ same k. absurd cc) (λ apart. h.replicas j);
      sent = at_append (MessageSays w.used first who) w.sent [] h.sent (λ k m e. absurd cc);
      since = h.since;
      out = λ j within is. put_cases w.replicas i (down (w.replicas i)) j (Out first who nonces j) (λ same. record { part = refl; under = λ k. absurd cc }) (λ apart. h.out j within is);
    }

    comes_up : (i x : ℕ) (ending : Ending) → i < group_size f → w.used i x ≡ false → is_down (w.replicas i).status ≡ true
        → at_effect f answer w (Holds f first who nonces) (put w.used i (put (w.used i) x true)) i (effect (w.replicas i) (w.stores i) (on_restart f i answer (record (w.replicas i) { stored_view = w.stores i }) x) ending)
    comes_up i x ending l unused is_down_now =
        let r : ReplicaState C = w.replicas i in
        let o : Outcome C A = on_restart f i answer (record r { stored_view = w.stores i }) x in
        let t : Effect C A = effect r (w.stores i) o ending in
        let used : ℕ → ℕ → Bool = put w.used i (put (w.used i) x true) in
        let mine : used i x ≡ true = ap (λ (row : ℕ → Bool). row x) (put_same w.used i (put (w.used i) x true) i refl) ∙ put_same (w.used i) x true x refl in
        let grow : (j y : ℕ) → w.used j y ≡ true → used j y ≡ true = (λ j y k. put_cases w.used i (put (w.used i) x true) j (λ row. row y ≡ true)
        (λ same. put_cases (w.used i) x true y (λ b. b ≡ true) (λ d. refl) (λ d. subst (λ z. w.used z y ≡ true) same k)) (λ apart. k)) in
        record {
          replicas = λ j. put_cases w.replicas i t.replica j (λ q. is_recovering q.status ≡ true → used j q.nonce ≡ true)
              (λ same. by_ending (λ q. is_recovering q.status ≡ true → used j q.nonce ≡ true) r (w.stores i) o ending
              (λ k. absurd (down_and_recovering r.status is_down_now k)) (λ k. absurd cc) (λ d k. subst (λ z. used z x ≡ true) (sym same) mine))
              (λ apart k. grow j _ (h.replicas j k));
          sent = at_append (MessageSays used first who) w.sent t.sends (λ k m e. says_more w.used used first who grow m.from m.to m.body (h.sent k m e))
              (sends_by_ending (MessageSays used first who) r (w.stores i) o ending (at_map f i answer (MessageSays used first who) (Recovery x (w.stores i)) (λ to. mine) (others i (group_size f))));
          since = λ j y k. grow j y (h.since j y k);
          out = λ j within is. put_cases w.replicas i t.replica j (Out first who nonces j)
              (λ same. subst (λ y. Out first who nonces y t.replica) (sym same)
              (let out = h.out i l (subst (λ y. who y ≡ true) same is) in
              by_ending (Out first who nonces i) r (w.stores i) o ending out (record { part = refl; under = λ k. absurd cc })
              (λ d. record { part = refl; under = λ k. inr (record { new = fresh (first i x) refl; others = λ s n. absurd cc }) })))
              (λ apart. h.out j within is);
        }
      where
        down_and_recovering : (s : Status) → is_down s ≡ true → is_recovering s ≡ true → ⊥
        down_and_recovering Normal a b = absurd cc
        down_and_recovering ViewChange a b = absurd cc
        down_and_recovering Recovering a b = absurd cc
        down_and_recovering Down a b = absurd cc

        fresh : (b : Bool) → first i x ≡ b → b ≡ false
        fresh false k = refl
        fresh true k = absurd (both_ways _ (h.since i x k) unused)

    holds_next : HoldsIn (happens f answer w e c)
    holds_next = case_by_case f answer w e c (Holds f first who nonces) (record {
      same = h;
      asks = λ ms all. record { replicas = h.replicas; sent = at_append (MessageSays w.used first who) w.sent ms h.sent (requests_say w.used first who ms all); since = h.since; out = h.out };
      acts = acts;
      crashes = crashes;
      comes_up = comes_up;
    })

  -- at each moment of a run
  runs_on : (w : World C A) (es : List (Event C × Completion)) (moment : ℕ) → ((i : ℕ) → who i ≡ true → IsQuorum f who) → HoldsIn w
      → ((k : ℕ) (event : Event C) → slice_get es k ≡ Some (event, Done) → (i : ℕ) → i < group_size f → who i ≡ true → HandsAnswer (run f answer (take k es) w) event i (nonces i) → ⊥)
      → HoldsIn (run f answer (take moment es) w)
  runs_on w es zero big h free = h
  runs_on w [] (suc moment) big h free = h
  runs_on w (x ∷ xs) (suc moment) big h free =
      runs_on (happens f answer w x.0 x.1) xs moment big
      (holds_next w x.0 x.1 big h (λ i l is done. free zero x.0 (ap (λ c. Some (x.0, c)) done) i l is))
      (λ k event e. free (suc k) event e)

-- the early events alone: nonces in messages were used
first_holds : {C A : Type 0} (f : ℕ) → Holds {C = C} {A = A} f (λ i x. false) (λ i. false) (λ i. 0) (start {C = C} {A = A}).replicas (start {C = C} {A = A}).stores (start {C = C} {A = A}).used (start {C = C} {A = A}).sent (start {C = C} {A = A}).order
first_holds f = record { replicas = λ i e. absurd cc; sent = λ k m e. absurd cc; since = λ i x e. absurd cc; out = λ i l e. absurd cc }

-- and of the nonces that were used at that moment it says nothing yet who answers
from_now : {C A : Type 0} (used : ℕ → ℕ → Bool) (who : ℕ → Bool) (from to : Party) (b : Body C A) → Says used (λ i x. false) (λ i. false) from to b → Says used used who from to b
from_now used who from to (Recovery x v) k = k
from_now used who from (Replica t) (RecoveryResponseMessage x a) k = (k.0, λ new. absurd (both_ways _ k.0 new))
from_now used who from (Client c) (RecoveryResponseMessage x a) k = tt
from_now used who from to (RequestMessage q) k = tt
from_now used who from to (Prepare u q o d) k = tt
from_now used who from to (PrepareOk u o) k = tt
from_now used who from to (Commit u d) k = tt
from_now used who from to (Reply u q a) k = tt
from_now used who from to (StartViewChange u) k = tt
from_now used who from to (DoViewChangeMessage u a) k = tt
from_now used who from to (StartView u d log) k = tt
from_now used who from to (GetState u o) k = tt
from_now used who from to (NewState u o d log) k = tt

pub run_append : {C A : Type 0} (f : ℕ) (answer : List C → A) (early late : List (Event C × Completion)) (w : World C A) → run f answer (early ++ late) w ≡ run f answer late (run f answer early w)
run_append f answer [] late w = refl
run_append f answer (e ∷ es) late w = run_append f answer es late (happens f answer w e.0 e.1)

pub take_all : {X : Type 0} (xs : List X) → take (length xs) xs ≡ xs
take_all xs = grind (arith, common_steps)

-- behind the early events, at each moment of the late ones
pub frozen_hold : {C A : Type 0} (f : ℕ) (answer : List C → A) (early late : List (Event C × Completion)) (who : ℕ → Bool) (nonces : ℕ → ℕ) → AreFrozen f answer early late who nonces
    → (moment : ℕ) → HoldsIn f answer (world f answer early).used who nonces (run f answer (take moment late) (world f answer early))
frozen_hold {C} {A} f answer early late who nonces k moment =
    let now : World C A = world f answer early in
    let before : HoldsIn f answer (λ i x. false) (λ i. false) (λ i. 0) (run f answer (take (length early) early) (start {C = C} {A = A})) =
    runs_on f answer (λ i x. false) (λ i. false) (λ i. 0) (start {C = C} {A = A}) early (length early) (λ i e. absurd cc) (first_holds f) (λ j event e i l is. absurd cc) in
    let h : HoldsIn f answer (λ i x. false) (λ i. false) (λ i. 0) now = subst (λ es. HoldsIn f answer (λ i x. false) (λ i. false) (λ i. 0) (run f answer es (start {C = C} {A = A}))) (take_all early) before in
    runs_on f answer now.used who nonces now late moment (λ i e. k.many)
    (record {
      replicas = h.replicas;
      sent = λ j m e. from_now now.used who m.from m.to m.body (h.sent j m e);
      since = λ i x e. e;
      out = λ i l is. let r = k.out i l is in record { part = r.0; under = λ e. inl r.1 };
    })
    (λ j event e i l is hands. k.unanswered i l is j event e
    (subst (λ (v : World C A). HandsAnswer v event i (nonces i)) (sym (run_append f answer early (take j late) start)) hands))

pub take_no_part : {C A : Type 0} (f : ℕ) (answer : List C → A) (early late : List (Event C × Completion)) (who : ℕ → Bool) (nonces : ℕ → ℕ) → AreFrozen f answer early late who nonces → TakeNoPart f answer early late who
take_no_part {C} {A} f answer early late who nonces k moment i l is =
    let h = frozen_hold f answer early late who nonces k moment in
    let out : takes_part ((run f answer (take moment late) (world f answer early)).replicas i).status ≡ false = (h.out i l is).part in
    subst (λ (v : World C A). takes_part (v.replicas i).status ≡ false) (sym (run_append f answer early (take moment late) start)) out
