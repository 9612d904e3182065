-- What clients did in moves that are one run is one history.
use Rattle.std.proofs.Common.{◌≡◌, ℕ, List, [], ◌∷◌, refl, sym, ap, ◌∙◌, subst}
use Rattle.il_model.specs.declared.command.Command.{Command}
use Rattle.il_model.specs.declared.command.Answer.{Answer}
use Rattle.vr_model.specs.Membership.{Group}
use Rattle.vr_model.specs.Replicas.{put}
use Rattle.vr_model.specs.Steps.{LocalState, ClientStep, after, first_local_state, first_client}
use Rattle.vr_model.specs.Interleaving.{Move, OfReplica, OfClient, AreMoves}
use Rattle.laws_clients.specs.ClientHistory.{clients_of, IsHistoryOf}
use Rattle.laws_threads.specs.ObservedMoves.{IsOneRun, shown_moves}
use Rattle.laws_threads.specs.CodeMoves.{CodeMove, AreOneRun, clients_in, observed_clients}
use Rattle.laws_threads.proofs.Running.{front_right}

shown_clients : (g : Group) (locals : ℕ → LocalState Command) (ms : List (Move Command Answer)) → observed_clients (shown_moves g.f g.answer locals ms) ≡ clients_of ms
shown_clients g locals [] = refl
shown_clients g locals (OfReplica i s place ∷ ms) = shown_clients g (put locals i (after g.f i g.answer (locals i) s)) ms
shown_clients g locals (OfClient c d place ∷ ms) = ap (λ (xs : List (ℕ × ClientStep Command Answer)). (c, d) ∷ xs) (shown_clients g locals ms)

module _ {S : Type 0} (g : Group) where
  pub seen : ((moves : List (Move Command Answer)) → AreMoves g.f g.answer (λ i. first_local_state) (λ c. first_client) [] moves → IsHistoryOf g.answer (clients_of moves))
      → (early late : List (CodeMove S)) → AreOneRun g early late → IsHistoryOf g.answer (clients_in early)
  seen law early late one =
      let r : IsOneRun g.f g.answer one.first one.second = one.run in
      subst (λ (xs : List (ℕ × ClientStep Command Answer)). IsHistoryOf g.answer xs)
      (sym (shown_clients g (λ i. first_local_state) r.first) ∙ ap observed_clients r.shown_first ∙ one.clients)
      (law r.first (front_right g.f g.answer (λ i. first_local_state) (λ c. first_client) [] r.first r.second r.right))
