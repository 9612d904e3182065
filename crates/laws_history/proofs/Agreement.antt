-- A prefix of an order is an order of prefixes.
use Rattle.std.proofs.Common.{◌≡◌, ℕ, Bool, true, false, cond, eqb, List, [], ◌∷◌, ◌++◌, refl, sym, ap, ◌∙◌, subst, append_assoc, length, Some}
use Rattle.std.specs.Prelude.{slice_get}
use Rattle.vr_model.specs.Agreement.{OneHistory}
use Rattle.vr_model.specs.Logs.{Request, IsPrefix, IsFrom}
use Rattle.vr_model.specs.Messages.{Message}
use Rattle.vr_model.specs.Replicas.{ReplicaState}
use Rattle.vr_model.specs.World.{ClientState, World, executed, run, start}
use Rattle.laws_history.proofs.Histories.{one_history}
use Rattle.laws_history.proofs.Prefixes.{take_all}
use Rattle.vr_model.specs.Steps.{Step, LocalState, after, ends, AreSteps, first_local_state, ClientStep, client_after, AreClientSteps, first_client}
use Rattle.vr_model.specs.Interleaving.{Move, OfReplica, OfClient, steps_of, client_steps_of, sent_by, AllTakeSent, events, move_events, EachByItself, InOneOrder, IsRun, RunAsOne}
use Rattle.laws_history.proofs.Orders.{in_one_order}

cond_append : {X : Type 0} (b : Bool) (x : X) (xs ys zs : List X) → zs ≡ xs ++ ys → cond b (x ∷ zs) zs ≡ cond b (x ∷ xs) xs ++ ys
cond_append true x xs ys zs e = ap (λ l. x ∷ l) e
cond_append false x xs ys zs e = e

steps_append : {C A : Type 0} (i : ℕ) (early late : List (Move C A)) → steps_of i (early ++ late) ≡ steps_of i early ++ steps_of i late
steps_append i [] late = refl
steps_append i (OfReplica j s place ∷ ms) late = cond_append (eqb i j) s (steps_of i ms) (steps_of i late) (steps_of i (ms ++ late)) (steps_append i ms late)
steps_append i (OfClient c d place ∷ ms) late = steps_append i ms late

client_steps_append : {C A : Type 0} (c : ℕ) (early late : List (Move C A)) → client_steps_of c (early ++ late) ≡ client_steps_of c early ++ client_steps_of c late
client_steps_append c [] late = refl
client_steps_append c (OfReplica j s place ∷ ms) late = client_steps_append c ms late
client_steps_append c (OfClient k d place ∷ ms) late = cond_append (eqb c k) d (client_steps_of c ms) (client_steps_of c late) (client_steps_of c (ms ++ late)) (client_steps_append c ms late)

events_append : {C A : Type 0} (early late : List (Move C A)) → events (early ++ late) ≡ events early ++ events late
events_append [] late = refl
events_append (m ∷ ms) late = ap (λ es. move_events m ++ es) (events_append ms late) ∙ sym (append_assoc (move_events m) (events ms) (events late))

steps_front : {C A : Type 0} (f i : ℕ) (answer : List C → A) (n : LocalState C) (early late : List (Step C A)) → AreSteps f i answer n (early ++ late) → AreSteps f i answer n early
steps_front f i answer n [] late k = tt
steps_front f i answer n (s ∷ ss) late k = (k.0, k.1, steps_front f i answer (after f i answer n s) ss late k.2)

client_steps_front : {C A : Type 0} (f c : ℕ) (answer : List C → A) (k : ClientState C) (early late : List (ClientStep C A)) → AreClientSteps f c answer k (early ++ late) → AreClientSteps f c answer k early
client_steps_front f c answer k [] late a = tt
client_steps_front f c answer k (d ∷ ds) late a = (a.0, a.1, client_steps_front f c answer (client_after f c answer k d.action) ds late a.2)

-- lists of one replica, one after the other: as from several starts of its thread
pub steps_join : {C A : Type 0} (f i : ℕ) (answer : List C → A) (n : LocalState C) (early late : List (Step C A)) → AreSteps f i answer n early → AreSteps f i answer (ends f i answer n early) late → AreSteps f i answer n (early ++ late)
steps_join f i answer n [] late a b = b
steps_join f i answer n (s ∷ ss) late a b = (a.0, a.1, steps_join f i answer (after f i answer n s) ss late a.2 b)

pub ends_append : {C A : Type 0} (f i : ℕ) (answer : List C → A) (n : LocalState C) (early late : List (Step C A)) → ends f i answer n (early ++ late) ≡ ends f i answer (ends f i answer n early) late
ends_append f i answer n [] late = refl
ends_append f i answer n (s ∷ ss) late = ends_append f i answer (after f i answer n s) ss late

taken_front : {C A : Type 0} (sent : List (Message C A)) (early late : List (Move C A)) → AllTakeSent sent (early ++ late) → AllTakeSent sent early
taken_front sent [] late k = tt
taken_front sent (m ∷ ms) late k = (k.0, taken_front (sent ++ sent_by m) ms late k.1)

front_nil : {X : Type 0} (xs ys : List X) → xs ++ ys ≡ [] → xs ≡ []
front_nil [] ys e = refl
front_nil (x ∷ xs) ys e = absurd cc

front_run : {C A : Type 0} (f : ℕ) (answer : List C → A) (steps : ℕ → List (Step C A)) (client_steps : ℕ → List (ClientStep C A)) (early late : List (Move C A))
    → EachByItself f answer steps client_steps → InOneOrder steps client_steps (early ++ late) → IsRun f answer (λ i. steps_of i early) (λ c. client_steps_of c early) early
front_run f answer steps client_steps early late each order =
    let is : (i : _) → steps i ≡ steps_of i early ++ steps_of i late = (λ i. sym (order.replicas i) ∙ steps_append i early late) in
    let own : (c : _) → client_steps c ≡ client_steps_of c early ++ client_steps_of c late = (λ c. sym (order.clients c) ∙ client_steps_append c early late) in
    in_one_order f answer (λ i. steps_of i early) (λ c. client_steps_of c early) early
    (record {
      replicas = λ i l. steps_front f i answer first_local_state (steps_of i early) (steps_of i late) (subst (AreSteps f i answer first_local_state) (is i) (each.replicas i l));
      no_others = λ i far. front_nil (steps_of i early) (steps_of i late) (sym (is i) ∙ each.no_others i far);
      clients = λ c. client_steps_front f c answer first_client (client_steps_of c early) (client_steps_of c late) (subst (AreClientSteps f c answer first_client) (own c) (each.clients c));
    })
    (record { replicas = λ i. refl; clients = λ c. refl; taken = taken_front [] early late order.taken })

pub run_as_one : {C A : Type 0} (f : ℕ) (answer : List C → A) (steps : ℕ → List (Step C A)) (client_steps : ℕ → List (ClientStep C A)) (early late : List (Move C A))
    → EachByItself f answer steps client_steps → InOneOrder steps client_steps (early ++ late) → RunAsOne f answer early late
run_as_one {C} {A} f answer steps client_steps early late each order =
    let first : IsRun f answer (λ i. steps_of i early) (λ c. client_steps_of c early) early = front_run f answer steps client_steps early late each order in
    let w : World C A = run f answer (events early) start in
    let h : OneHistory f answer (events early) (events late) = one_history {C = C} {A = A} f answer (events early) (events late) in
    record {
      history = h;
      replicas = λ i l. subst (λ (r : ReplicaState C). IsPrefix (executed r) w.order) (first.end.replicas i)
          (subst (λ es. IsPrefix (executed ((run f answer es (start {C = C} {A = A})).replicas i)) w.order) (take_all (events early)) (h.executed (length (events early)) i));
      submitted = subst (λ (qs : List (Request C)). IsFrom qs w.order) first.end.submitted h.submitted;
      replies = λ n m e. h.answered n m (subst (λ (ms : List (Message C A)). slice_get ms n ≡ Some m) (sym first.end.sent) e);
      joined = events_append early late;
    }
