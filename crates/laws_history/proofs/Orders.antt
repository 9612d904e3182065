-- The lists in one order are a run of the world: by induction on the order.
use Rattle.std.proofs.Common.{◌≡◌, ℕ, ◌<◌, ◌≤◌, cond, List, [], ◌∷◌, ◌++◌, arith, refl, sym, ap, ◌∙◌, subst, suc, None, ◌⊎◌, inl, inr, append-nil, append_assoc}
use Rattle.std.proofs.lemmas.Bool.{eq-eqb, ne_eqb, cases_eq, cases_lt}
use Rattle.vr_model.specs.Logs.{Request}
use Rattle.vr_model.specs.Groups.{group_size}
use Rattle.vr_model.specs.Messages.{Message}
use Rattle.vr_model.specs.Report.{refused_at, first_refusal, AllComplete}
use Rattle.vr_model.specs.World.{ClientState, World, Event, Completion, Done, happens, run, start}
use Rattle.laws_history.proofs.Tables.{put_same, put_other}
use Rattle.vr_model.specs.Steps.{Step, LocalState, after, ends, sends_of, AreSteps, first_local_state, ClientStep, client_after, client_ends, AreClientSteps, first_client}
use Rattle.vr_model.specs.Interleaving.{Move, OfReplica, OfClient, steps_of, client_steps_of, sent_by, all_sent, submitted_in, submitted_by, all_submitted, AllTakeSent, move_events, step_events, action_event, events, EachByItself, InOneOrder, IsRun}
use Rattle.laws_history.proofs.Moves.{local_state_of, IsReady, HaveSteps, no_reason, Goes, step_goes, action_goes}

pub run_append : {C A : Type 0} (f : ℕ) (answer : List C → A) (early late : List (Event C × Completion)) (w : World C A) → run f answer (early ++ late) w ≡ run f answer late (run f answer early w)
run_append f answer [] late w = refl
run_append f answer (e ∷ es) late w = run_append f answer es late (happens f answer w e.0 e.1)

have_append : {C A : Type 0} (f : ℕ) (answer : List C → A) (early late : List (Event C × Completion)) (w : World C A)
    → HaveSteps f answer w early → HaveSteps f answer (run f answer early w) late → HaveSteps f answer w (early ++ late)
have_append f answer [] late w a b = b
have_append f answer (e ∷ es) late w a b = (a.0, a.1, have_append f answer es late (happens f answer w e.0 e.1) a.2 b)

-- then there is no first event without a step, and every loss is one that may be
have_none : {C A : Type 0} (f : ℕ) (answer : List C → A) (e : ℕ) (es : List (Event C × Completion)) (w : World C A) → HaveSteps f answer w es → first_refusal f answer e es w ≡ None
have_none f answer e [] w k = refl
have_none f answer e (x ∷ xs) w k = ap (λ r. refused_at e r (first_refusal f answer (suc e) xs (happens f answer w x.0 x.1))) (no_reason f answer w x.0 k.0) ∙ have_none f answer (suc e) xs (happens f answer w x.0 x.1) k.2

have_completed : {C A : Type 0} (f : ℕ) (answer : List C → A) (es : List (Event C × Completion)) (w : World C A) → HaveSteps f answer w es → AllComplete f answer es w
have_completed f answer [] w k = tt
have_completed f answer (x ∷ xs) w k = (k.1, have_completed f answer xs (happens f answer w x.0 x.1) k.2)

-- replica i did its next step, or none
abbrev Next : {C A : Type 0} → ℕ → ℕ → (List C → A) → LocalState C → List (Step C A) → LocalState C → List (Step C A) → Type 0
Next {C} {A} f i answer n ss p rest = ((s : Step C A) × (ss ≡ s ∷ rest) × (p ≡ after f i answer n s)) ⊎ ((ss ≡ rest) × (p ≡ n))

next_steps : {C A : Type 0} (f i : ℕ) (answer : List C → A) (n p : LocalState C) (ss rest : List (Step C A)) → Next f i answer n ss p rest → AreSteps f i answer n ss → AreSteps f i answer p rest
next_steps {C} {A} f i answer n p ss rest (inl x) k =
    let now : AreSteps f i answer n (x.0 ∷ rest) = subst (AreSteps f i answer n) x.1 k in subst (λ q. AreSteps f i answer q rest) (sym x.2) now.2
next_steps {C} {A} f i answer n p ss rest (inr x) k = subst (λ q. AreSteps f i answer q rest) (sym x.1) (subst (AreSteps f i answer n) x.0 k)

next_ends : {C A : Type 0} (f i : ℕ) (answer : List C → A) (n p : LocalState C) (ss rest : List (Step C A)) → Next f i answer n ss p rest → ends f i answer p rest ≡ ends f i answer n ss
next_ends {C} {A} f i answer n p ss rest (inl x) = ap (λ q. ends f i answer q rest) x.2 ∙ ap (ends f i answer n) (sym x.1)
next_ends {C} {A} f i answer n p ss rest (inr x) = ap (λ q. ends f i answer q rest) x.1 ∙ ap (ends f i answer n) (sym x.0)

-- and client c
abbrev NextClientStep : {C A : Type 0} → ℕ → ℕ → (List C → A) → ClientState C → List (ClientStep C A) → ClientState C → List (ClientStep C A) → Type 0
NextClientStep {C} {A} f c answer k ds q rest = ((d : ClientStep C A) × (ds ≡ d ∷ rest) × (q ≡ client_after f c answer k d.action)) ⊎ ((ds ≡ rest) × (q ≡ k))

next_client_steps : {C A : Type 0} (f c : ℕ) (answer : List C → A) (k q : ClientState C) (ds rest : List (ClientStep C A)) → NextClientStep f c answer k ds q rest → AreClientSteps f c answer k ds → AreClientSteps f c answer q rest
next_client_steps {C} {A} f c answer k q ds rest (inl x) a =
    let now : AreClientSteps f c answer k (x.0 ∷ rest) = subst (AreClientSteps f c answer k) x.1 a in subst (λ z. AreClientSteps f c answer z rest) (sym x.2) now.2
next_client_steps {C} {A} f c answer k q ds rest (inr x) a = subst (λ z. AreClientSteps f c answer z rest) (sym x.1) (subst (AreClientSteps f c answer k) x.0 a)

next_client : {C A : Type 0} (f c : ℕ) (answer : List C → A) (k q : ClientState C) (ds rest : List (ClientStep C A)) → NextClientStep f c answer k ds q rest → client_ends f c answer q rest ≡ client_ends f c answer k ds
next_client {C} {A} f c answer k q ds rest (inl x) = ap (λ z. client_ends f c answer z rest) x.2 ∙ ap (client_ends f c answer k) (sym x.1)
next_client {C} {A} f c answer k q ds rest (inr x) = ap (λ z. client_ends f c answer z rest) x.1 ∙ ap (client_ends f c answer k) (sym x.0)

-- from this world on, the moves are a run of it
record Plays {C A : Type 0} (f : ℕ) (answer : List C → A) (w : World C A) (moves : List (Move C A)) : Type 0 where
  have_steps : HaveSteps f answer w (events moves)
  goes : Goes w (run f answer (events moves) w) (λ i. ends f i answer (local_state_of w i) (steps_of i moves)) (λ c. client_ends f c answer (w.clients c) (client_steps_of c moves)) (all_sent moves) (all_submitted moves)

plays_more : {C A : Type 0} (f : ℕ) (answer : List C → A) (w v : World C A) (m : Move C A) (ms : List (Move C A)) → run f answer (move_events m) w ≡ v
    → HaveSteps f answer w (move_events m) → v.sent ≡ w.sent ++ sent_by m → v.submitted ≡ w.submitted ++ submitted_by m
    → ((i : ℕ) → Next f i answer (local_state_of w i) (steps_of i (m ∷ ms)) (local_state_of v i) (steps_of i ms))
    → ((c : ℕ) → NextClientStep f c answer (w.clients c) (client_steps_of c (m ∷ ms)) (v.clients c) (client_steps_of c ms))
    → Plays f answer v ms → Plays f answer w (m ∷ ms)
plays_more {C} {A} f answer w v m ms is have sent submitted next client_step later =
    let same : run f answer (events (m ∷ ms)) w ≡ run f answer (events ms) v = run_append f answer (move_events m) (events ms) w ∙ ap (run f answer (events ms)) is in
    record {
      have_steps = have_append f answer (move_events m) (events ms) w have (subst (λ x. HaveSteps f answer x (events ms)) (sym is) later.have_steps);
      goes = subst (λ x. Goes w x (λ i. ends f i answer (local_state_of w i) (steps_of i (m ∷ ms))) (λ c. client_ends f c answer (w.clients c) (client_steps_of c (m ∷ ms))) (all_sent (m ∷ ms)) (all_submitted (m ∷ ms))) (sym same) (record {
        locals = λ i. later.goes.locals i ∙ next_ends f i answer (local_state_of w i) (local_state_of v i) (steps_of i (m ∷ ms)) (steps_of i ms) (next i);
        clients = λ c. later.goes.clients c ∙ next_client f c answer (w.clients c) (v.clients c) (client_steps_of c (m ∷ ms)) (client_steps_of c ms) (client_step c);
        sent = later.goes.sent ∙ ap (λ (xs : List (Message C A)). xs ++ all_sent ms) sent ∙ append_assoc w.sent (sent_by m) (all_sent ms);
        submitted = later.goes.submitted ∙ ap (λ (xs : List (Request C)). xs ++ all_submitted ms) submitted ∙ append_assoc w.submitted (submitted_by m) (all_submitted ms);
        ready = later.goes.ready;
      });
    }

pub steps_here : {C A : Type 0} (i : ℕ) (s : Step C A) (place : ℕ) (ms : List (Move C A)) (j : ℕ) → j ≡ i → steps_of j (OfReplica i s place ∷ ms) ≡ s ∷ steps_of j ms
steps_here i s place ms j e = ap (λ b. cond b (s ∷ steps_of j ms) (steps_of j ms)) (eq-eqb j i e)

pub steps_there : {C A : Type 0} (i : ℕ) (s : Step C A) (place : ℕ) (ms : List (Move C A)) (j : ℕ) → (j ≡ i → ⊥) → steps_of j (OfReplica i s place ∷ ms) ≡ steps_of j ms
steps_there i s place ms j ne = ap (λ b. cond b (s ∷ steps_of j ms) (steps_of j ms)) (ne_eqb j i ne)

pub client_steps_here : {C A : Type 0} (c : ℕ) (d : ClientStep C A) (place : ℕ) (ms : List (Move C A)) (j : ℕ) → j ≡ c → client_steps_of j (OfClient c d place ∷ ms) ≡ d ∷ client_steps_of j ms
client_steps_here c d place ms j e = ap (λ b. cond b (d ∷ client_steps_of j ms) (client_steps_of j ms)) (eq-eqb j c e)

pub client_steps_there : {C A : Type 0} (c : ℕ) (d : ClientStep C A) (place : ℕ) (ms : List (Move C A)) (j : ℕ) → (j ≡ c → ⊥) → client_steps_of j (OfClient c d place ∷ ms) ≡ client_steps_of j ms
client_steps_there c d place ms j ne = ap (λ b. cond b (d ∷ client_steps_of j ms) (client_steps_of j ms)) (ne_eqb j c ne)

plays : {C A : Type 0} (f : ℕ) (answer : List C → A) (w : World C A) (moves : List (Move C A)) → IsReady w
    → ((i : ℕ) → i < group_size f → AreSteps f i answer (local_state_of w i) (steps_of i moves))
    → ((i : ℕ) → group_size f ≤ i → steps_of i moves ≡ [])
    → ((c : ℕ) → AreClientSteps f c answer (w.clients c) (client_steps_of c moves))
    → AllTakeSent w.sent moves → Plays f answer w moves
plays f answer w [] ready steps none client_steps taken = record { have_steps = tt; goes = record { locals = λ i. refl; clients = λ c. refl; sent = sym (append-nil w.sent); submitted = sym (append-nil w.submitted); ready = ready } }
plays {C} {A} f answer w (OfReplica i s place ∷ ms) ready steps none client_steps taken = elim (cases_lt i (group_size f)) [
  | inr far ↦ absurd (let e : s ∷ steps_of i ms ≡ [] = sym (steps_here i s place ms i refl) ∙ none i far in cc)
  | inl l ↦
      let n : LocalState C = local_state_of w i in
      let v : World C A = run f answer (step_events i s place) w in
      let own : AreSteps f i answer n (s ∷ steps_of i ms) = subst (AreSteps f i answer n) (steps_here i s place ms i refl) (steps i l) in
      let k = step_goes f i answer w s place l ready own.0 taken.0 in
      let sent : v.sent ≡ w.sent ++ sends_of s = k.1.sent ∙ ap (λ (xs : List (Message C A)). w.sent ++ xs) (sym own.1) in
      let next : (j : ℕ) → Next f j answer (local_state_of w j) (steps_of j (OfReplica i s place ∷ ms)) (local_state_of v j) (steps_of j ms) = (λ j. elim (cases_eq j i) [
        | inl e ↦ inl (s, steps_here i s place ms j e, k.1.locals j ∙ put_same (local_state_of w) i (after f i answer n s) j e ∙ ap (λ x. after f x answer (local_state_of w x) s) (sym e))
        | inr ne ↦ inr (steps_there i s place ms j ne, k.1.locals j ∙ put_other (local_state_of w) i (after f i answer n s) j ne)
      ]) in
      let client_step : (c : ℕ) → NextClientStep f c answer (w.clients c) (client_steps_of c ms) (v.clients c) (client_steps_of c ms) = (λ c. inr (refl, k.1.clients c)) in
      plays_more f answer w v (OfReplica i s place) ms refl k.0 sent k.1.submitted next client_step
      (plays f answer v ms k.1.ready
      (λ j l. next_steps f j answer (local_state_of w j) (local_state_of v j) (steps_of j (OfReplica i s place ∷ ms)) (steps_of j ms) (next j) (steps j l))
      (λ j far. sym (steps_there i s place ms j (λ e. omega arith)) ∙ none j far)
      (λ c. next_client_steps f c answer (w.clients c) (v.clients c) (client_steps_of c ms) (client_steps_of c ms) (client_step c) (client_steps c))
      (subst (λ (xs : List (Message C A)). AllTakeSent xs ms) (sym sent) taken.1))
]
plays {C} {A} f answer w (OfClient c d place ∷ ms) ready steps none client_steps taken =
    let q : ClientState C = w.clients c in
    let v : World C A = happens f answer w (action_event c d.action place) Done in
    let own : AreClientSteps f c answer q (d ∷ client_steps_of c ms) = subst (AreClientSteps f c answer q) (client_steps_here c d place ms c refl) (client_steps c) in
    let k = action_goes f c answer w d.action place ready own.0 taken.0 in
    let sent : v.sent ≡ w.sent ++ d.sends = k.1.sent ∙ ap (λ (xs : List (Message C A)). w.sent ++ xs) (sym own.1) in
    let next : (j : ℕ) → Next f j answer (local_state_of w j) (steps_of j ms) (local_state_of v j) (steps_of j ms) = (λ j. inr (refl, k.1.locals j)) in
    let client_step : (j : ℕ) → NextClientStep f j answer (w.clients j) (client_steps_of j (OfClient c d place ∷ ms)) (v.clients j) (client_steps_of j ms) = (λ j. elim (cases_eq j c) [
      | inl e ↦ inl (d, client_steps_here c d place ms j e, k.1.clients j ∙ put_same w.clients c (client_after f c answer q d.action) j e ∙ ap (λ x. client_after f x answer (w.clients x) d.action) (sym e))
      | inr ne ↦ inr (client_steps_there c d place ms j ne, k.1.clients j ∙ put_other w.clients c (client_after f c answer q d.action) j ne)
    ]) in
    plays_more f answer w v (OfClient c d place) ms refl (k.0, tt, tt) sent (k.1.submitted ∙ ap (λ (xs : List (Message C A)). w.submitted ++ submitted_in d.action xs) (sym own.1)) next client_step
    (plays f answer v ms k.1.ready
    (λ j l. next_steps f j answer (local_state_of w j) (local_state_of v j) (steps_of j ms) (steps_of j ms) (next j) (steps j l))
    none
    (λ j. next_client_steps f j answer (w.clients j) (v.clients j) (client_steps_of j (OfClient c d place ∷ ms)) (client_steps_of j ms) (client_step j) (client_steps j))
    (subst (λ (xs : List (Message C A)). AllTakeSent xs ms) (sym sent) taken.1))

pub in_one_order : {C A : Type 0} (f : ℕ) (answer : List C → A) (steps : ℕ → List (Step C A)) (client_steps : ℕ → List (ClientStep C A)) (moves : List (Move C A))
    → EachByItself f answer steps client_steps → InOneOrder steps client_steps moves → IsRun f answer steps client_steps moves
in_one_order {C} {A} f answer steps client_steps moves each order =
    let p : Plays f answer (start {C = C} {A = A}) moves = plays f answer start moves (λ i. refl)
    (λ i l. subst (AreSteps f i answer first_local_state) (sym (order.replicas i)) (each.replicas i l))
    (λ i far. order.replicas i ∙ each.no_others i far)
    (λ c. subst (AreClientSteps f c answer first_client) (sym (order.clients c)) (each.clients c))
    order.taken in
    record {
      have_steps = have_none f answer 0 (events moves) start p.have_steps;
      complete = have_completed f answer (events moves) start p.have_steps;
      end = record {
        replicas = λ i. ap (λ (n : LocalState C). n.replica) (p.goes.locals i) ∙ ap (λ ss. (ends f i answer first_local_state ss).replica) (order.replicas i);
        stores = λ i. ap (λ (n : LocalState C). n.store) (p.goes.locals i) ∙ ap (λ ss. (ends f i answer first_local_state ss).store) (order.replicas i);
        clients = λ c. p.goes.clients c ∙ ap (client_ends f c answer first_client) (order.clients c);
        sent = p.goes.sent;
        submitted = p.goes.submitted;
      };
    }
