-- What is known of observed moves, by the laws of runs.
use Rattle.std.proofs.Common.{◌≡◌, ℕ, List, [], ◌∷◌, ◌++◌, length, take, drop, refl, sym, ap, ◌∙◌, subst, append_assoc, ◌⊎◌}
use Rattle.std.specs.Prelude.{slice_get}
use Rattle.std.proofs.lemmas.List.{take-append-drop}
use Rattle.vr_model.specs.Logs.{Request, IsPrefix}
use Rattle.vr_model.specs.Messages.{Message, Body, NewState}
use Rattle.vr_model.specs.Replicas.{ReplicaState, is_normal, is_down}
use Rattle.vr_model.specs.Rules.{receives}
use Rattle.vr_model.specs.World.{World, Event, Completion, executed, run, start}
use Rattle.vr_model.specs.Views.{WasLogOf}
use Rattle.vr_model.specs.Agreement.{RulesKeepExecuted, NewStatesHandLogsOn}
use Rattle.vr_model.specs.Steps.{Step, LocalState, ClientStep, first_local_state, first_client}
use Rattle.vr_model.specs.Stores.{first_known_state}
use Rattle.vr_model.specs.Interleaving.{Move, steps_of, client_steps_of, AreMoves, AreLists, EachByItself, InOneOrder, IsRun, RunAsOne, events, move_events}
use Rattle.laws_threads.specs.ObservedMoves.{ObservedMove, all_said, knowns_after, shown_moves, AreFromTheFirst, known_at, IsOneRun, WasKnownLog, MayPresuppose}
use Rattle.laws_threads.proofs.Resolving.{resolved}
use Rattle.laws_threads.proofs.Running.{locals_after, ends_at, known_as, said_as, front_right, shown_take, taken_right, take_front}

events_append : {C A : Type 0} (ms ns : List (Move C A)) → events (ms ++ ns) ≡ events ms ++ events ns
events_append [] ns = refl
events_append {C} {A} (m ∷ ms) ns = ap (λ (xs : List (Event C × Completion)). move_events m ++ xs) (events_append ms ns) ∙ sym (append_assoc (move_events m) (events ms) (events ns))

module _ {C A : Type 0} (f : ℕ) (answer : List C → A) where
  abbrev Right : List (Move C A) → Type 0
  Right ms = AreMoves f answer (λ i. first_local_state) (λ c. first_client) [] ms

  abbrev Lists : Type 0
  Lists = (moves : List (Move C A)) → Right moves → AreLists f answer moves

  -- where observed moves end
  known_end : (ms : List (Move C A)) (os : List (ObservedMove C A)) → shown_moves f answer (λ i. first_local_state) ms ≡ os → (i : ℕ) → (locals_after f answer (λ i. first_local_state) ms i).replica ≡ known_at f answer os i
  known_end ms os shows i =
      known_as f answer (λ i. first_local_state) (λ i. first_known_state) (λ j. refl) ms i
      ∙ ap (λ (xs : List (ObservedMove C A)). (knowns_after f answer (λ i. first_known_state) xs i).replica) shows

  pub one_run : Lists → ((steps : ℕ → List (Step C A)) (client_steps : ℕ → List (ClientStep C A)) (early late : List (Move C A)) → EachByItself f answer steps client_steps → InOneOrder steps client_steps (early ++ late) → RunAsOne f answer early late)
      → (early late : List (ObservedMove C A)) → AreFromTheFirst f answer (early ++ late) → IsOneRun f answer early late
  one_run lists agree early late are =
      let r = resolved f answer (early ++ late) are in
      let n = length early in
      let first : List (Move C A) = take n r.0 in
      let second : List (Move C A) = drop n r.0 in
      let whole : first ++ second ≡ r.0 = take-append-drop n r.0 in
      let right : Right (first ++ second) = subst Right (sym whole) r.1 in
      let shows : shown_moves f answer (λ i. first_local_state) first ≡ early = shown_take f answer n (λ i. first_local_state) r.0 ∙ ap (take n) r.2 ∙ take_front early late in
      let l : AreLists f answer (first ++ second) = lists (first ++ second) right in
      record {
        first = first;
        second = second;
        right = right;
        shown_first = shows;
        shown_all = ap (shown_moves f answer (λ i. first_local_state)) whole ∙ r.2;
        one = agree (λ i. steps_of i (first ++ second)) (λ c. client_steps_of c (first ++ second)) first second l.each l.order;
        replicas = λ i. ap (λ (x : LocalState C). x.replica) (ends_at f answer i first_local_state (λ i. first_local_state) first refl) ∙ known_end first early shows i;
        sent = sym (said_as f answer (λ i. first_local_state) (λ c. first_client) [] first (front_right f answer (λ i. first_local_state) (λ c. first_client) [] first second right)) ∙ ap all_said shows;
      }

  module _ (lists : Lists) (inter : (steps : ℕ → List (Step C A)) (client_steps : ℕ → List (ClientStep C A)) (moves : List (Move C A)) → EachByItself f answer steps client_steps → InOneOrder steps client_steps moves → IsRun f answer steps client_steps moves)
      (keep : (es : List (Event C × Completion)) → RulesKeepExecuted f answer es) (hand : (es : List (Event C × Completion)) → NewStatesHandLogsOn f answer es) where
    module _ (ms : List (Move C A)) (os : List (ObservedMove C A)) (right : Right ms) (shows : shown_moves f answer (λ i. first_local_state) ms ≡ os) where
      runs : IsRun f answer (λ i. steps_of i ms) (λ c. client_steps_of c ms) ms
      runs = let l : AreLists f answer ms = lists ms right in inter (λ i. steps_of i ms) (λ c. client_steps_of c ms) ms l.each l.order

      world_at : (i : ℕ) → (run f answer (events ms) (start {C = C} {A = A})).replicas i ≡ known_at f answer os i
      world_at i = runs.end.replicas i ∙ ap (λ (x : LocalState C). x.replica) (ends_at f answer i first_local_state (λ i. first_local_state) ms refl) ∙ known_end ms os shows i

      world_sent : (run f answer (events ms) (start {C = C} {A = A})).sent ≡ all_said os
      world_sent = runs.end.sent ∙ sym (said_as f answer (λ i. first_local_state) (λ c. first_client) [] ms right) ∙ ap all_said shows

    was : (ms : List (Move C A)) (os : List (ObservedMove C A)) → Right ms → shown_moves f answer (λ i. first_local_state) ms ≡ os → (view : ℕ) (log : List (Request C)) → WasKnownLog f answer os view log → WasLogOf f answer (events ms) view log
    was ms os right shows view log k =
        let d : List (Move C A) = take k.moment ms in
        let e : List (Move C A) = drop k.moment ms in
        let parts : events ms ≡ events d ++ events e = ap events (sym (take-append-drop k.moment ms)) ∙ events_append d e in
        let front : take (length (events d)) (events ms) ≡ events d = ap (take (length (events d))) parts ∙ take_front (events d) (events e) in
        let same : (run f answer (take (length (events d)) (events ms)) (start {C = C} {A = A})).replicas k.replica ≡ known_at f answer (take k.moment os) k.replica =
        ap (λ xs. (run f answer xs (start {C = C} {A = A})).replicas k.replica) front
        ∙ world_at d (take k.moment os) (taken_right f answer k.moment (λ i. first_local_state) (λ c. first_client) [] ms right) (shown_take f answer k.moment (λ i. first_local_state) ms ∙ ap (take k.moment) shows) k.replica in
        record {
          moment = length (events d);
          replica = k.replica;
          normal = ap (λ (r : ReplicaState C). is_normal r.status) same ∙ k.normal;
          view_is = ap (λ (r : ReplicaState C). r.view) same ∙ k.view_is;
          log_is = ap (λ (r : ReplicaState C). r.log) same ∙ k.log_is;
        }

    pub presupposes : (os : List (ObservedMove C A)) → AreFromTheFirst f answer os → MayPresuppose f answer os
    presupposes os are =
        let r = resolved f answer os are in
        let w : World C A = run f answer (events r.0) start in
        let at : (i : ℕ) → w.replicas i ≡ known_at f answer os i = world_at r.0 os r.1 r.2 in
        let sent : w.sent ≡ all_said os = world_sent r.0 os r.1 r.2 in
        record {
          keeps = λ i n m up is to.
              subst (λ (q : ReplicaState C). IsPrefix (executed q) (receives f i answer q m.from m.body).replica.log) (at i)
              (keep (events r.0) i n m (ap (λ (q : ReplicaState C). is_down q.status) (at i) ∙ up) (ap (λ (xs : List (Message C A)). slice_get xs n) sent ∙ is) to);
          hands_on = λ i n view op_number commit_number from whole up is within known.
              let b : Body C A = NewState view op_number commit_number (drop op_number whole) in
              subst (λ (q : ReplicaState C). ((receives f i answer q from b).replica ≡ q) ⊎ ((receives f i answer q from b).replica.log ≡ whole)) (at i)
              (hand (events r.0) i n view op_number commit_number from whole (ap (λ (q : ReplicaState C). is_down q.status) (at i) ∙ up) (ap (λ (xs : List (Message C A)). slice_get xs n) sent ∙ is) within (was r.0 os r.1 r.2 view whole known));
        }
