-- What an event leaves, case by case: as it was but for clients, or one replica has taken a step.
use Rattle.std.proofs.Common.{◌≡◌, ℕ, zero, suc, ◌<◌, Bool, true, false, not, ltb, ◌||◌, cond, List, [], ◌∷◌, ◌++◌, Option, Some, None, refl}
use Rattle.std.specs.Prelude.{slice_get}
use Rattle.std.proofs.lemmas.Bool.{ltb-true}
use Rattle.vr_model.specs.Logs.{Request}
use Rattle.vr_model.specs.Groups.{group_size}
use Rattle.vr_model.specs.Messages.{Party, Replica, Client, Body, RequestMessage, Reply, Message}
use Rattle.vr_model.specs.Replicas.{is_down, ReplicaState, Outcome, put}
use Rattle.vr_model.specs.Rules.{on_restart}
use Rattle.vr_model.specs.World.{Reason, World, Event, Submit, Retry, ClientRestart, Deliver, Timeout, Resend, Crash, Restart, StoreFail, Completion, Done, Lost, executed, down, longer, Ending, Went, ending_of, Effect, effect, does, if_up, comes_to_client, comes, comes_to, retried, refusal, require, if_none, steps, happens, OutOfRange, NonceUsed, StillUp}
use Rattle.vr_model.specs.Steps.{Input, Takes, TimesOut, Resends, by_rule}

-- requests alone
abbrev pub IsRequest : {C A : Type 0} → Body C A → Type 0
IsRequest (RequestMessage m) = Unit {0}
IsRequest _ = ⊥

abbrev pub AllRequests : {C A : Type 0} → List (Message C A) → Type 0
AllRequests [] = Unit {0}
AllRequests (m ∷ ms) = IsRequest m.body × AllRequests ms

requests_append : {C A : Type 0} (xs ys : List (Message C A)) → AllRequests xs → AllRequests ys → AllRequests (xs ++ ys)
requests_append [] ys a b = b
requests_append (x ∷ xs) ys a b = (a.0, requests_append xs ys a.1 b)

-- what is said of replicas, stores, nonces that were used, messages and the committed list
abbrev pub Parts : Type 0 → Type 0 → Type 1
Parts C A = (ℕ → ReplicaState C) → (ℕ → ℕ) → (ℕ → ℕ → Bool) → List (Message C A) → List (Request C) → Type 0

-- what comes to a replica by this event of this world
abbrev pub Came : {C A : Type 0} → World C A → Event C → ℕ → Input C A → Type 0
Came w e i (Takes m) = (n : ℕ) × (e ≡ Deliver n) × (slice_get w.sent n ≡ Some m) × (m.to ≡ Replica i)
Came w e i TimesOut = Unit {0}
Came w e i Resends = Unit {0}

-- replica i, which was up, takes a step; one that went and was done is of an event that was done
module _ {C A : Type 0} (f : ℕ) (answer : List C → A) (w : World C A) where
  abbrev pub at_effect : Parts C A → (ℕ → ℕ → Bool) → ℕ → Effect C A → Type 0
  at_effect P used i t = P (put w.replicas i t.replica) (put w.stores i t.store) used (w.sent ++ t.sends) (longer w.order (executed t.replica))

  pub record Cases (e : Event C) (c : Completion) (P : Parts C A) : Type 0 where
    pub same : P w.replicas w.stores w.used w.sent w.order
    pub asks : (ms : List (Message C A)) → AllRequests ms → P w.replicas w.stores w.used (w.sent ++ ms) w.order
    pub acts : (i : ℕ) (input : Input C A) (ending : Ending) → i < group_size f → is_down (w.replicas i).status ≡ false → Came w e i input → (ending ≡ Went Done → c ≡ Done)
        → at_effect P w.used i (effect (w.replicas i) (w.stores i) (by_rule f i answer (w.replicas i) input) ending)
    pub crashes : (i : ℕ) → i < group_size f → at_effect P w.used i (record { replica = down (w.replicas i); store = w.stores i; sends = [] })
    pub comes_up : (i x : ℕ) (ending : Ending) → i < group_size f → w.used i x ≡ false → is_down (w.replicas i).status ≡ true
        → at_effect P (put w.used i (put (w.used i) x true)) i (effect (w.replicas i) (w.stores i) (on_restart f i answer (record (w.replicas i) { stored_view = w.stores i }) x) ending)

  abbrev of : Parts C A → World C A → Type 0
  of P v = P v.replicas v.stores v.used v.sent v.order

  either : (P : Parts C A) (b : Bool) (v u : World C A) → (b ≡ true → of P v) → (b ≡ false → of P u) → of P (cond b v u)
  either P true v u a b = a refl
  either P false v u a b = b refl

  up : (a b : Bool) → (a || not b) ≡ false → (a ≡ false) × (b ≡ true)
  up true b e = absurd cc
  up false true e = (refl, refl)
  up false false e = absurd cc

  done_by : (c : Completion) (saves : Option ℕ) (failing : Option Bool) → ending_of c saves failing ≡ Went Done → c ≡ Done
  done_by Done saves failing e = refl
  done_by (Lost false) saves failing e = absurd cc
  done_by (Lost true) None failing e = absurd cc
  done_by (Lost true) (Some u) None e = absurd cc
  done_by (Lost true) (Some u) (Some k) e = absurd cc

  module _ (e : Event C) (c : Completion) (P : Parts C A) (k : Cases e c P) where
    upright : (i : ℕ) (input : Input C A) → Came w e i input → of P (if_up f answer w i (does f answer w i (by_rule f i answer (w.replicas i) input) c))
    upright i input came = either P (is_down (w.replicas i).status || not (ltb i (group_size f))) w _ (λ y. k.same)
        (λ n. let both = up (is_down (w.replicas i).status) (ltb i (group_size f)) n in
        let o : Outcome C A = by_rule f i answer (w.replicas i) input in
        k.acts i input (ending_of c o.saves (w.failing i)) (ltb-true _ _ both.1) both.0 came (done_by c o.saves (w.failing i)))

    to_client : (d : ℕ) (b : Body C A) → of P (comes_to_client f answer w d b)
    to_client d (Reply v n a) = k.same
    to_client d _ = k.same

    to_party : (p : Party) (n : ℕ) (m : Message C A) → e ≡ Deliver n → slice_get w.sent n ≡ Some m → m.to ≡ p → of P (comes_to f answer w p m.from m.body c)
    to_party (Replica i) n m at is to = upright i (Takes m) (n, at, is, to)
    to_party (Client d) n m at is to = to_client d m.body

    comes_by : (n : ℕ) → e ≡ Deliver n → (x : Option (Message C A)) → slice_get w.sent n ≡ x → of P (comes f answer w x c)
    comes_by n at None is = k.same
    comes_by n at (Some m) is = to_party m.to n m at is refl

    all_retried : (d n : ℕ) (m : Option (Request C)) → AllRequests (retried f answer d n m)
    all_retried d zero None = tt
    all_retried d (suc n) None = tt
    all_retried d zero (Some m) = tt
    all_retried d (suc n) (Some m) = requests_append (retried f answer d n (Some m)) _ (all_retried d n (Some m)) (tt, tt)

    within : (b : Bool) (reason : Reason) (rest : Option Reason) → require b reason rest ≡ None → (b ≡ true) × (rest ≡ None)
    within true reason rest e = (refl, e)
    within false reason rest e = absurd cc

    not_so : (b : Bool) → not b ≡ true → b ≡ false
    not_so true e = absurd cc
    not_so false e = refl

    by_event : (d : Event C) → e ≡ d → refusal f w d ≡ None → of P (steps f answer w d c)
    by_event (Submit d command) at ok = k.asks _ (tt, tt)
    by_event (Retry d) at ok = k.asks _ (all_retried d (group_size f) (w.clients d).waits)
    by_event (ClientRestart d) at ok = k.same
    by_event (Deliver n) at ok = comes_by n at (slice_get w.sent n) refl
    by_event (Timeout i) at ok = upright i TimesOut tt
    by_event (Resend i) at ok = upright i Resends tt
    by_event (Crash i) at ok = let p = within (ltb i (group_size f)) OutOfRange _ ok in k.crashes i (ltb-true _ _ p.0)
    by_event (Restart i x) at ok =
        let p = within (ltb i (group_size f)) OutOfRange _ ok in
        let q = within (not (w.used i x)) NonceUsed _ p.1 in
        let s = within (is_down (w.replicas i).status) StillUp _ q.1 in
        k.comes_up i x (ending_of c None (w.failing i)) (ltb-true _ _ p.0) (not_so _ q.0) s.0
    by_event (StoreFail i keeps_new) at ok = k.same

    by_refusal : (reason : Option Reason) → refusal f w e ≡ reason → of P (if_none reason (steps f answer w e c) w)
    by_refusal None ok = by_event e refl ok
    by_refusal (Some reason) ok = k.same

    pub case_by_case : of P (happens f answer w e c)
    case_by_case = by_refusal (refusal f w e) refl
