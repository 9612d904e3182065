-- What clients did among moves that are one run: right steps, with their events and with what they heard.
use Rattle.std.proofs.Common.{◌≡◌, ℕ, suc, List, [], ◌∷◌, ◌++◌, refl, sym, ap, ◌∙◌, subst}
use Rattle.il_model.specs.declared.command.Command.{Command}
use Rattle.il_model.specs.declared.command.Answer.{Answer}
use Rattle.il_model.specs.Program.{Program}
use Rattle.il_loader.specs.Images.{ReadsImages}
use Rattle.il_loader.specs.Judging.{image_of}
use Rattle.vr_model.specs.Membership.{Group}
use Rattle.vr_model.specs.Messages.{Message}
use Rattle.vr_model.specs.Replicas.{put}
use Rattle.vr_model.specs.Report.{Release}
use Rattle.vr_model.specs.World.{ClientState}
use Rattle.vr_model.specs.Steps.{LocalState, after, sends_of, client_after, first_local_state, first_client}
use Rattle.vr_model.specs.Interleaving.{Move, OfReplica, OfClient, AreMoves}
use Rattle.vr_core.specs.StandsFor.{group_of}
use Rattle.laws_clients.specs.ClientHistory.{clients_of, IsHistoryOf}
use Rattle.laws_threads.specs.ObservedMoves.{IsOneRun, shown_moves}
use Rattle.laws_threads.specs.CodeMoves.{CodeMove, Starts, Steps, Dies, Serves, AreOneRun, clients_in, observed_clients}
use Rattle.laws_threads.specs.Ran.{RanAsOne}
use Rattle.laws_answers.specs.Seen.{heard_by, schedule_of, heard_from, IsSeenAsOne, IsSeenOverStarts}
use Rattle.laws_answers.proofs.Numbers.{Did, AreEvents, AreRight, right_clients}
use Rattle.laws_answers.proofs.Traces.{heard_of, HasTraces, has_traces}

module _ {S : Type 0} where
  events_of : (ms : List (CodeMove S)) → AreEvents (clients_in ms) (schedule_of ms)
  events_of [] = tt
  events_of (Starts i q found left number starts ∷ ms) = events_of ms
  events_of (Steps i e place r left result ∷ ms) = events_of ms
  events_of (Dies i e place left ∷ ms) = events_of ms
  events_of (Serves c d out place ∷ ms) = ((place, refl), events_of ms)

  pub heard_is : (e : ℕ) (ms : List (CodeMove S)) → heard_of e (clients_in ms) ≡ heard_from e ms
  heard_is e [] = refl
  heard_is e (Starts i q found left number starts ∷ ms) = heard_is e ms
  heard_is e (Steps i x place r left result ∷ ms) = heard_is e ms
  heard_is e (Dies i x place left ∷ ms) = heard_is e ms
  heard_is e (Serves c d out place ∷ ms) = ap (λ (rs : List (Release Answer)). heard_by e c d.action ++ rs) (heard_is (suc e) ms)

shown_clients : (g : Group) (locals : ℕ → LocalState Command) (ms : List (Move Command Answer)) → observed_clients (shown_moves g.f g.answer locals ms) ≡ clients_of ms
shown_clients g locals [] = refl
shown_clients g locals (OfReplica i s place ∷ ms) = shown_clients g (put locals i (after g.f i g.answer (locals i) s)) ms
shown_clients g locals (OfClient c d place ∷ ms) = ap (λ (xs : List Did). (c, d) ∷ xs) (shown_clients g locals ms)

front_right : (f : ℕ) (answer : List Command → Answer) (locals : ℕ → LocalState Command) (clients : ℕ → ClientState Command) (sent : List (Message Command Answer)) (ms ns : List (Move Command Answer)) → AreMoves f answer locals clients sent (ms ++ ns) → AreMoves f answer locals clients sent ms
front_right f answer locals clients sent [] ns right = tt
front_right f answer locals clients sent (OfClient c d place ∷ ms) ns right =
    (right.0, right.1, right.2, front_right f answer locals (put clients c (client_after f c answer (clients c) d.action)) (sent ++ d.sends) ms ns right.3)
front_right f answer locals clients sent (OfReplica i s place ∷ ms) ns right =
    (right.0, right.1, right.2, right.3, front_right f answer (put locals i (after f i answer (locals i) s)) clients (sent ++ sends_of s) ms ns right.4)

-- the group of this program
abbrev its_group : ℕ → Program → ℕ → Group
its_group f Q budget = group_of f Q budget

module _ {S : Type 0} (f : ℕ) (Q : Program) (budget : ℕ) where
  right_of : (early late : List (CodeMove S)) → AreOneRun (its_group f Q budget) early late → AreRight f (its_group f Q budget).answer (λ c. first_client) (clients_in early)
  right_of early late one =
      let r : IsOneRun f (its_group f Q budget).answer one.first one.second = one.run in
      subst (λ (xs : List Did). AreRight f (its_group f Q budget).answer (λ c. first_client) xs)
      (sym (shown_clients (its_group f Q budget) (λ i. first_local_state) r.first) ∙ ap observed_clients r.shown_first ∙ one.clients)
      (right_clients f (its_group f Q budget).answer (λ i. first_local_state) (λ c. first_client) [] r.first (front_right f (its_group f Q budget).answer (λ i. first_local_state) (λ c. first_client) [] r.first r.second r.right))

  pub seen_as_one : ReadsImages image_of → ((early late : List (CodeMove S)) → AreOneRun (its_group f Q budget) early late → IsHistoryOf (its_group f Q budget).answer (clients_in early)) → (early late : List (CodeMove S)) → AreOneRun (its_group f Q budget) early late → IsSeenAsOne Q budget early
  seen_as_one reads law early late one =
      let t : HasTraces f Q budget (clients_in early) (schedule_of early) (events_of early) (right_of early late one) (law early late one) =
      has_traces f Q budget (clients_in early) (schedule_of early) (events_of early) (right_of early late one) (law early late one) in
      record { reading = image_of; reads = reads; order = t.order; lengths = t.lengths; releases = t.releases; heard = t.heard ∙ heard_is 0 early; history = t.history }

module _ {S : Type 0} (f : ℕ) (Q : Program) (budget : ℕ) where
  pub seen_over_starts : ((early late : List (CodeMove S)) → AreOneRun (group_of f Q budget) early late → IsSeenAsOne Q budget early) → (early late : List (CodeMove S)) → RanAsOne (group_of f Q budget) early late → IsSeenOverStarts Q budget early
  seen_over_starts law early late ran = record { moves = ran.first; same = ran.asks; one = law ran.first ran.second ran.one }
