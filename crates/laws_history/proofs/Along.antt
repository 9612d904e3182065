-- Moves that are right along the order are lists that are right by themselves.
use Rattle.std.proofs.Common.{◌≡◌, ℕ, ◌<◌, ◌≤◌, List, [], ◌∷◌, ◌++◌, arith, refl, sym, ◌∙◌, subst, inl, inr}
use Rattle.std.proofs.lemmas.Bool.{cases_eq}
use Rattle.vr_model.specs.Groups.{group_size}
use Rattle.vr_model.specs.Messages.{Message}
use Rattle.vr_model.specs.Replicas.{put}
use Rattle.vr_model.specs.World.{ClientState}
use Rattle.laws_history.proofs.Tables.{put_same, put_other}
use Rattle.vr_model.specs.Steps.{LocalState, after, sends_of, AreSteps, first_local_state, client_after, AreClientSteps, first_client}
use Rattle.vr_model.specs.Interleaving.{Move, OfReplica, OfClient, steps_of, client_steps_of, AllTakeSent, AreMoves, AreLists}
use Rattle.laws_history.proofs.Orders.{steps_here, steps_there, client_steps_here, client_steps_there}

record Lists {C A : Type 0} (f : ℕ) (answer : List C → A) (locals : ℕ → LocalState C) (client_states : ℕ → ClientState C) (sent : List (Message C A)) (moves : List (Move C A)) : Type 0 where
  replicas : (i : ℕ) → AreSteps f i answer (locals i) (steps_of i moves)
  no_others : (i : ℕ) → group_size f ≤ i → steps_of i moves ≡ []
  clients : (c : ℕ) → AreClientSteps f c answer (client_states c) (client_steps_of c moves)
  taken : AllTakeSent sent moves

lists : {C A : Type 0} (f : ℕ) (answer : List C → A) (locals : ℕ → LocalState C) (client_states : ℕ → ClientState C) (sent : List (Message C A)) (moves : List (Move C A))
    → AreMoves f answer locals client_states sent moves → Lists f answer locals client_states sent moves
lists f answer locals client_states sent [] k = record { replicas = λ i. tt; no_others = λ i far. refl; clients = λ c. tt; taken = tt }
lists {C} {A} f answer locals client_states sent (OfReplica i s place ∷ ms) k =
    let n : LocalState C = after f i answer (locals i) s in
    let t = lists f answer (put locals i n) client_states (sent ++ sends_of s) ms k.4 in
    record {
      replicas = λ j. elim (cases_eq j i) [
        | inl e ↦
            let rest : AreSteps f j answer n (steps_of j ms) = subst (λ p. AreSteps f j answer p (steps_of j ms)) (put_same locals i n j e) (t.replicas j) in
            let here : AreSteps f i answer (locals i) (s ∷ steps_of i ms) = (k.1, k.2, subst (λ x. AreSteps f x answer n (steps_of x ms)) e rest) in
            subst (AreSteps f j answer (locals j)) (sym (steps_here i s place ms j e)) (subst (λ x. AreSteps f x answer (locals x) (s ∷ steps_of x ms)) (sym e) here)
        | inr ne ↦ subst (AreSteps f j answer (locals j)) (sym (steps_there i s place ms j ne)) (subst (λ p. AreSteps f j answer p (steps_of j ms)) (put_other locals i n j ne) (t.replicas j))
      ];
      no_others = λ j far. let l : i < group_size f = k.0 in steps_there i s place ms j (λ e. omega (arith, l)) ∙ t.no_others j far;
      clients = t.clients;
      taken = (k.3, t.taken);
    }
lists {C} {A} f answer locals client_states sent (OfClient c d place ∷ ms) k =
    let q : ClientState C = client_after f c answer (client_states c) d.action in
    let t = lists f answer locals (put client_states c q) (sent ++ d.sends) ms k.3 in
    record {
      replicas = t.replicas;
      no_others = t.no_others;
      clients = λ j. elim (cases_eq j c) [
        | inl e ↦
            let rest : AreClientSteps f j answer q (client_steps_of j ms) = subst (λ p. AreClientSteps f j answer p (client_steps_of j ms)) (put_same client_states c q j e) (t.clients j) in
            let here : AreClientSteps f c answer (client_states c) (d ∷ client_steps_of c ms) = (k.0, k.1, subst (λ x. AreClientSteps f x answer q (client_steps_of x ms)) e rest) in
            subst (AreClientSteps f j answer (client_states j)) (sym (client_steps_here c d place ms j e)) (subst (λ x. AreClientSteps f x answer (client_states x) (d ∷ client_steps_of x ms)) (sym e) here)
        | inr ne ↦ subst (AreClientSteps f j answer (client_states j)) (sym (client_steps_there c d place ms j ne)) (subst (λ p. AreClientSteps f j answer p (client_steps_of j ms)) (put_other client_states c q j ne) (t.clients j))
      ];
      taken = (k.2, t.taken);
    }

pub are_lists : {C A : Type 0} (f : ℕ) (answer : List C → A) (moves : List (Move C A)) → AreMoves f answer (λ i. first_local_state) (λ c. first_client) [] moves → AreLists f answer moves
are_lists f answer moves k =
    let t = lists f answer (λ i. first_local_state) (λ c. first_client) [] moves k in
    record {
      each = record { replicas = λ i l. t.replicas i; no_others = t.no_others; clients = t.clients };
      order = record { replicas = λ i. refl; clients = λ c. refl; taken = t.taken };
    }
