-- Moves that are right by themselves: where they end, what shows of them, and the world that they run to.
use Rattle.std.proofs.Common.{◌≡◌, ℕ, zero, suc, Bool, cond, List, [], ◌∷◌, ◌++◌, length, take, drop, refl, sym, ap, ◌∙◌, subst, inl, inr}
use Rattle.std.proofs.lemmas.Bool.{cases_eq, eq-eqb, ne_eqb}
use Rattle.std.proofs.lemmas.List.{take-append-drop}
use Rattle.vr_model.specs.Messages.{Message}
use Rattle.vr_model.specs.Replicas.{ReplicaState, put}
use Rattle.vr_model.specs.World.{Done, Lost, down, Went, SaveFailed, ClientState}
use Rattle.vr_model.specs.Steps.{Step, Acts, Crashes, ComesUp, LocalState, acts, effect_of, after, ends, sends_of, client_after}
use Rattle.vr_model.specs.Stores.{shown, KnownState, comes_up_with, next}
use Rattle.vr_model.specs.Interleaving.{Move, OfReplica, OfClient, steps_of, all_sent, AreMoves}
use Rattle.laws_threads.specs.ObservedMoves.{ObservedMove, ByReplica, ByClient, said, all_said, knowns_after, shown_moves}
use Rattle.laws_threads.proofs.Tables.{put_same, put_other}

module _ {C A : Type 0} (f : ℕ) (answer : List C → A) where
  abbrev pub locals_after : (ℕ → LocalState C) → List (Move C A) → ℕ → LocalState C
  locals_after locals [] = locals
  locals_after locals (OfReplica i s place ∷ ms) = locals_after (put locals i (after f i answer (locals i) s)) ms
  locals_after locals (OfClient c d place ∷ ms) = locals_after locals ms

  -- each replica's own list ends where the moves leave it
  pub ends_at : (i : ℕ) (n : LocalState C) (locals : ℕ → LocalState C) (ms : List (Move C A)) → n ≡ locals i → ends f i answer n (steps_of i ms) ≡ locals_after locals ms i
  ends_at i n locals [] e = e
  ends_at i n locals (OfClient c d place ∷ ms) e = ends_at i n locals ms e
  ends_at i n locals (OfReplica j s place ∷ ms) e =
      let q : LocalState C = after f j answer (locals j) s in
      let own : Bool → LocalState C = λ b. ends f i answer n (cond b (s ∷ steps_of i ms) (steps_of i ms)) in
      elim (cases_eq i j) [
        | inl is ↦ ap own (eq-eqb i j is)
            ∙ ends_at i (after f i answer n s) (put locals j q) ms (ap (λ (p : LocalState C). after f i answer p s) e ∙ ap (λ k. after f k answer (locals k) s) is ∙ sym (put_same locals j q i is))
        | inr ne ↦ ap own (ne_eqb i j ne) ∙ ends_at i n (put locals j q) ms (e ∙ sym (put_other locals j q i ne))
      ]

  -- a step leaves the record that is known
  known_step : (i : ℕ) (n : LocalState C) (k : KnownState C) (s : Step C A) → n.replica ≡ k.replica → (after f i answer n s).replica ≡ (next f i answer k (shown n s)).replica
  known_step i n k (Acts input (Went Done) sends) e = ap (λ (r : ReplicaState C). (acts f i answer r input).replica) e
  known_step i n k (Acts input (Went (Lost saved)) sends) e = e
  known_step i n k (Acts input (SaveFailed keeps_new) sends) e = ap (λ (r : ReplicaState C). down r) e
  known_step i n k Crashes e = ap (λ (r : ReplicaState C). down r) e
  known_step i n k (ComesUp x Done sends) e = ap (λ (r : ReplicaState C). (comes_up_with f i answer r n.store x).replica) e
  known_step i n k (ComesUp x (Lost saved) sends) e = e

  pub known_as : (locals : ℕ → LocalState C) (knowns : ℕ → KnownState C) → ((j : ℕ) → (locals j).replica ≡ (knowns j).replica) → (ms : List (Move C A)) (i : ℕ)
      → (locals_after locals ms i).replica ≡ (knowns_after f answer knowns (shown_moves f answer locals ms) i).replica
  known_as locals knowns same [] i = same i
  known_as locals knowns same (OfClient c d place ∷ ms) i = known_as locals knowns same ms i
  known_as locals knowns same (OfReplica j s place ∷ ms) i =
      let q : LocalState C = after f j answer (locals j) s in
      let m : KnownState C = next f j answer (knowns j) (shown (locals j) s) in
      known_as (put locals j q) (put knowns j m) (λ k. elim (cases_eq k j) [
        | inl e ↦ ap (λ (x : LocalState C). x.replica) (put_same locals j q k e) ∙ known_step j (locals j) (knowns j) s (same j) ∙ ap (λ (x : KnownState C). x.replica) (sym (put_same knowns j m k e))
        | inr ne ↦ ap (λ (x : LocalState C). x.replica) (put_other locals j q k ne) ∙ same k ∙ ap (λ (x : KnownState C). x.replica) (sym (put_other knowns j m k ne))
      ]) ms i

  -- and says what it sends
  said_step : (i : ℕ) (n : LocalState C) (s : Step C A) → sends_of s ≡ (effect_of f i answer n s).sends → said (shown n s) ≡ sends_of s
  said_step i n (Acts input (Went Done) sends) e = refl
  said_step i n (Acts input (Went (Lost saved)) sends) e = sym e
  said_step i n (Acts input (SaveFailed keeps_new) sends) e = sym e
  said_step i n Crashes e = refl
  said_step i n (ComesUp x Done sends) e = refl
  said_step i n (ComesUp x (Lost saved) sends) e = sym e

  pub said_as : (locals : ℕ → LocalState C) (clients : ℕ → ClientState C) (sent : List (Message C A)) (ms : List (Move C A)) → AreMoves f answer locals clients sent ms → all_said (shown_moves f answer locals ms) ≡ all_sent ms
  said_as locals clients sent [] right = refl
  said_as locals clients sent (OfClient c d place ∷ ms) right =
      ap (λ (xs : List (Message C A)). d.sends ++ xs) (said_as locals (put clients c (client_after f c answer (clients c) d.action)) (sent ++ d.sends) ms right.3)
  said_as locals clients sent (OfReplica i s place ∷ ms) right =
      let q : LocalState C = after f i answer (locals i) s in
      ap (λ (xs : List (Message C A)). xs ++ all_said (shown_moves f answer (put locals i q) ms)) (said_step i (locals i) s right.2)
      ∙ ap (λ (xs : List (Message C A)). sends_of s ++ xs) (said_as (put locals i q) clients (sent ++ sends_of s) ms right.4)

  -- the first of them
  pub front_right : (locals : ℕ → LocalState C) (clients : ℕ → ClientState C) (sent : List (Message C A)) (ms ns : List (Move C A)) → AreMoves f answer locals clients sent (ms ++ ns) → AreMoves f answer locals clients sent ms
  front_right locals clients sent [] ns right = tt
  front_right locals clients sent (OfClient c d place ∷ ms) ns right =
      (right.0, right.1, right.2, front_right locals (put clients c (client_after f c answer (clients c) d.action)) (sent ++ d.sends) ms ns right.3)
  front_right locals clients sent (OfReplica i s place ∷ ms) ns right =
      (right.0, right.1, right.2, right.3, front_right (put locals i (after f i answer (locals i) s)) clients (sent ++ sends_of s) ms ns right.4)

  pub shown_take : (n : ℕ) (locals : ℕ → LocalState C) (ms : List (Move C A)) → shown_moves f answer locals (take n ms) ≡ take n (shown_moves f answer locals ms)
  shown_take zero locals ms = refl
  shown_take (suc n) locals [] = refl
  shown_take (suc n) locals (OfReplica i s place ∷ ms) = ap (λ (xs : List (ObservedMove C A)). ByReplica i (shown (locals i) s) place ∷ xs) (shown_take n (put locals i (after f i answer (locals i) s)) ms)
  shown_take (suc n) locals (OfClient c d place ∷ ms) = ap (λ (xs : List (ObservedMove C A)). ByClient c d place ∷ xs) (shown_take n locals ms)

  pub taken_right : (n : ℕ) (locals : ℕ → LocalState C) (clients : ℕ → ClientState C) (sent : List (Message C A)) (ms : List (Move C A)) → AreMoves f answer locals clients sent ms → AreMoves f answer locals clients sent (take n ms)
  taken_right n locals clients sent ms right = front_right locals clients sent (take n ms) (drop n ms) (subst (λ xs. AreMoves f answer locals clients sent xs) (sym (take-append-drop n ms)) right)

pub take_front : {X : Type 0} (xs ys : List X) → take (length xs) (xs ++ ys) ≡ xs
take_front [] ys = refl
take_front (x ∷ xs) ys = ap (λ zs. x ∷ zs) (take_front xs ys)
