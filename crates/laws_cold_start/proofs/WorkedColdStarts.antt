-- The worked schedules, computed by the definitions.
use Rattle.std.proofs.Common.{◌≡◌, ℕ, zero, suc, ◌<◌, Bool, true, false, not, ◌==◌, ◌&&◌, List, [], ◌∷◌, take, Option, Some, None, arith, refl, sym, ap, subst}
use Rattle.std.specs.Prelude.{slice_get}
use Rattle.std.proofs.lemmas.Option.{same_Some}
use Rattle.std.proofs.lemmas.Bool.{and_parts, and_from, eq-eqb}
use Rattle.vr_model.specs.Logs.{Request, IsAmong}
use Rattle.vr_model.specs.Messages.{Party, Replica, Client, Body, RecoveryResponseMessage, Message}
use Rattle.vr_model.specs.Replicas.{ReplicaState, put}
use Rattle.vr_model.specs.Rules.{restarted}
use Rattle.vr_model.specs.World.{World, Event, Deliver, Completion, Done, down, first_replica, happens, run, start}
use Rattle.vr_model.specs.Views.{world}
use Rattle.laws_cold_start.specs.ColdStarts.{IsOutUnder, HandsAnswer, IsInNoLog, IsHandedNoAnswer}
use Rattle.laws_cold_start.specs.WorkedColdStarts.{request, memory_lost, goes_on, one_lost, others_commit, WorkedColdStarts}
use Rattle.laws_cold_start.proofs.Tables.{put_cases}
use Rattle.laws_cold_start.proofs.Frozen.{run_append}

module _ {C A : Type 0} (answer : List C → A) where
  -- the members by number
  third : (i : ℕ) → i < 3 → (P : ℕ → Type 0) → P 0 → P 1 → P 2 → P i
  third zero l P a b c = a
  third (suc zero) l P a b c = b
  third (suc (suc zero)) l P a b c = c
  third (suc (suc (suc n))) l P a b c = absurd (omega arith)

  empty : (i : ℕ) (t : ℕ → ReplicaState C) (r : ReplicaState C) → r.log ≡ [] → ((j : ℕ) → (t j).log ≡ []) → (put t 1 r i).log ≡ []
  empty i t r e all = put_cases t 1 r i (λ q. q.log ≡ []) (λ d. e) (λ d. all i)

  none_among : (m : Request C) (log : List (Request C)) → log ≡ [] → IsAmong log m → ⊥
  none_among m [] e among = let k = among.is in absurd cc
  none_among m (x ∷ xs) e among = absurd cc

  in_no_log : (a : C) → IsInNoLog 1 answer one_lost (request 0 a)
  in_no_log a zero i among = none_among (request 0 a) [] refl among
  in_no_log a (suc zero) i among = none_among (request 0 a) _ (empty i (λ j. first_replica) (down first_replica) refl (λ j. refl)) among
  in_no_log a (suc (suc zero)) i among = none_among (request 0 a) _ (empty i (put (λ j. first_replica) 1 (down first_replica)) (restarted 1 1 answer 0 7) refl (λ j. empty j (λ k. first_replica) (down first_replica) refl (λ k. refl))) among
  in_no_log a (suc (suc (suc n))) i among = none_among (request 0 a) _ (empty i (put (λ j. first_replica) 1 (down first_replica)) (restarted 1 1 answer 0 7) refl (λ j. empty j (λ k. first_replica) (down first_replica) refl (λ k. refl))) among

  -- whether a message is an answer to this nonce, for this replica
  abbrev to_it : Party → ℕ → Bool
  to_it (Replica j) i = j == i
  to_it (Client c) i = false

  abbrev under_it : Body C A → ℕ → Bool
  under_it (RecoveryResponseMessage y a) x = y == x
  under_it _ x = false

  abbrev answers : Option (Message C A) → ℕ → ℕ → Bool
  answers None i x = false
  answers (Some m) i x = to_it m.to i && under_it m.body x

  abbrev hands : World C A → Event C → ℕ → ℕ → Bool
  hands w (Deliver n) i x = answers (slice_get w.sent n) i x
  hands w _ i x = false

  abbrev none_hands : List (Event C × Completion) → World C A → ℕ → ℕ → Bool
  none_hands [] w i x = true
  none_hands (e ∷ es) w i x = not (hands w e.0 i x) && none_hands es (happens 1 answer w e.0 e.1) i x

  handed : (w : World C A) (e : Event C) (i x : ℕ) → HandsAnswer w e i x → hands w e i x ≡ true
  handed w e i x h = subst (λ d. hands w d i x ≡ true) (sym h.event_is)
      (subst (λ m. answers m i x ≡ true) (sym h.is) (and_from (i == i) (x == x) (eq-eqb i i refl) (eq-eqb x x refl)))

  free_run : (es : List (Event C × Completion)) (w : World C A) (i x : ℕ) → none_hands es w i x ≡ true → (moment : ℕ) (event : Event C) → slice_get es moment ≡ Some (event, Done)
      → HandsAnswer (run 1 answer (take moment es) w) event i x → ⊥
  free_run [] w i x none moment event e h = absurd cc
  free_run (y ∷ ys) w i x none zero event e h =
      let same : y ≡ (event, Done) = same_Some _ _ e in
      let k : HandsAnswer w y.0 i x = subst (λ d. HandsAnswer w d i x) (sym (ap (λ (z : Event C × Completion). z.0) same)) h in
      let p = and_parts (not (hands w y.0 i x)) _ none in
      absurd (let c : not true ≡ true = subst (λ b. not b ≡ true) (handed w y.0 i x k) p.0 in cc)
  free_run (y ∷ ys) w i x none (suc moment) event e h = free_run ys (happens 1 answer w y.0 y.1) i x (and_parts (not (hands w y.0 i x)) _ none).1 moment event e h

  free : (early late : List (Event C × Completion)) (i x : ℕ) → none_hands late (world 1 answer early) i x ≡ true → IsHandedNoAnswer 1 answer early late i x
  free early late i x none moment event e h = free_run late (world 1 answer early) i x none moment event e
      (subst (λ (v : World C A). HandsAnswer v event i x) (run_append 1 answer early (take moment late) start) h)

pub worked_cold_starts : {C A : Type 0} (answer : List C → A) (a b : C) → WorkedColdStarts answer a b
worked_cold_starts {C} {A} answer a b = record {
  steps = refl;
  frozen = record {
    many = omega arith;
    out = λ i l is. third answer i l (λ j. (not (j == 0)) ≡ true → IsOutUnder ((world 1 answer (memory_lost a)).replicas j) (put (λ k. 7) 2 9 j)) (λ e. absurd cc) (λ e. (refl, refl)) (λ e. (refl, refl)) is;
    unanswered = λ i l is. third answer i l (λ j. (not (j == 0)) ≡ true → IsHandedNoAnswer 1 answer (memory_lost a) (goes_on b) j (put (λ k. 7) 2 9 j)) (λ e. absurd cc)
        (λ e. free answer (memory_lost a) (goes_on b) 1 7 refl) (λ e. free answer (memory_lost a) (goes_on b) 2 9 refl) is;
  };
  in_log = refl;
  uncommitted = refl;
  answered_anew = refl;
  still_out = (refl, refl);
  too_few = record {
    many = omega arith;
    out = λ i l is. third answer i l (λ j. (j == 1) ≡ true → IsOutUnder ((world {A = A} 1 answer one_lost).replicas j) 7) (λ e. absurd cc) (λ e. (refl, refl)) (λ e. absurd cc) is;
    unanswered = λ i l is. third answer i l (λ j. (j == 1) ≡ true → IsHandedNoAnswer 1 answer one_lost (others_commit a) j 7) (λ e. absurd cc) (λ e. free answer one_lost (others_commit a) 1 7 refl) (λ e. absurd cc) is;
  };
  in_no_log = in_no_log answer a;
  too_few_shows = λ k. k.order 4 (record { place = 0; is = refl });
  recover = ((refl, refl), (refl, refl));
  handed = record { message = 2; from = _; response = _; event_is = refl; is = refl; recovers = (refl, refl) };
  handed_shows = refl;
}
