-- Observed moves, one list after another.
use Rattle.std.proofs.Common.{◌≡◌, ℕ, List, [], ◌∷◌, ◌++◌, refl, sym, ap, ◌∙◌, subst, append_assoc}
use Rattle.std.proofs.lemmas.List.{append-nil}
use Rattle.il_model.specs.declared.command.Command.{Command}
use Rattle.il_model.specs.declared.command.Answer.{Answer}
use Rattle.vr_model.specs.Messages.{Message}
use Rattle.vr_model.specs.Replicas.{put}
use Rattle.vr_model.specs.World.{ClientState}
use Rattle.vr_model.specs.Steps.{ClientStep, client_after}
use Rattle.vr_model.specs.Stores.{KnownState, next}
use Rattle.laws_threads.specs.ObservedMoves.{ObservedMove, ByReplica, ByClient, said, said_by, all_said, AreObservedMoves, knowns_after}
use Rattle.laws_threads.specs.CodeMoves.{observed_clients}

module _ {C A : Type 0} (f : ℕ) (answer : List C → A) where
  abbrev pub clients_after : (ℕ → ClientState C) → List (ObservedMove C A) → ℕ → ClientState C
  clients_after clients [] = clients
  clients_after clients (ByReplica i g place ∷ os) = clients_after clients os
  clients_after clients (ByClient c d place ∷ os) = clients_after (put clients c (client_after f c answer (clients c) d.action)) os

  pub knowns_append : (knowns : ℕ → KnownState C) (os ns : List (ObservedMove C A)) (i : ℕ) → knowns_after f answer knowns (os ++ ns) i ≡ knowns_after f answer (knowns_after f answer knowns os) ns i
  knowns_append knowns [] ns i = refl
  knowns_append knowns (ByReplica j g place ∷ os) ns i = knowns_append (put knowns j (next f j answer (knowns j) g)) os ns i
  knowns_append knowns (ByClient c d place ∷ os) ns i = knowns_append knowns os ns i

  pub clients_append : (clients : ℕ → ClientState C) (os ns : List (ObservedMove C A)) (c : ℕ) → clients_after clients (os ++ ns) c ≡ clients_after (clients_after clients os) ns c
  clients_append clients [] ns c = refl
  clients_append clients (ByReplica j g place ∷ os) ns c = clients_append clients os ns c
  clients_append clients (ByClient e d place ∷ os) ns c = clients_append (put clients e (client_after f e answer (clients e) d.action)) os ns c

  pub said_append : (os ns : List (ObservedMove C A)) → all_said (os ++ ns) ≡ all_said os ++ all_said ns
  said_append [] ns = refl
  said_append (m ∷ os) ns = ap (λ (xs : List (Message C A)). said_by m ++ xs) (said_append os ns) ∙ sym (append_assoc (said_by m) (all_said os) (all_said ns))

  pub right_append : (knowns : ℕ → KnownState C) (clients : ℕ → ClientState C) (sent : List (Message C A)) (os ns : List (ObservedMove C A)) → AreObservedMoves f answer knowns clients sent os
      → AreObservedMoves f answer (knowns_after f answer knowns os) (clients_after clients os) (sent ++ all_said os) ns → AreObservedMoves f answer knowns clients sent (os ++ ns)
  right_append knowns clients sent [] ns a b = subst (λ (s : List (Message C A)). AreObservedMoves f answer knowns clients s ns) (append-nil sent) b
  right_append knowns clients sent (ByReplica i g place ∷ os) ns a b =
      let k : ℕ → KnownState C = put knowns i (next f i answer (knowns i) g) in (
        a.0,
        a.1,
        a.2,
        right_append k clients (sent ++ said g) os ns a.3
            (subst (λ (s : List (Message C A)). AreObservedMoves f answer (knowns_after f answer k os) (clients_after clients os) s ns) (sym (append_assoc sent (said g) (all_said os))) b),
      )
  right_append knowns clients sent (ByClient c d place ∷ os) ns a b =
      let k : ℕ → ClientState C = put clients c (client_after f c answer (clients c) d.action) in (
        a.0,
        a.1,
        a.2,
        right_append knowns k (sent ++ d.sends) os ns a.3
            (subst (λ (s : List (Message C A)). AreObservedMoves f answer (knowns_after f answer knowns os) (clients_after k os) s ns) (sym (append_assoc sent d.sends (all_said os))) b),
      )

pub observed_append : (os ns : List (ObservedMove Command Answer)) → observed_clients (os ++ ns) ≡ observed_clients os ++ observed_clients ns
observed_append [] ns = refl
observed_append (ByReplica i g place ∷ os) ns = observed_append os ns
observed_append (ByClient c d place ∷ os) ns = ap (λ (xs : List (ℕ × ClientStep Command Answer)). (c, d) ∷ xs) (observed_append os ns)
