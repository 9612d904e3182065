-- What replicas and clients did is right by the rules in a list that differs little.
use Rattle.std.proofs.Common.{◌≡◌, ℕ, ◌<◌, ◌≤◌, cond, eqb, List, [], ◌∷◌, ◌++◌, refl, sym, ap, ◌∙◌, subst}
use Rattle.std.specs.Prelude.{slice_get}
use Rattle.il_model.specs.declared.command.Command.{Command}
use Rattle.il_model.specs.declared.command.Answer.{Answer}
use Rattle.vr_model.specs.declared.message.Message as code
use Rattle.vr_model.specs.Groups.{group_size}
use Rattle.vr_model.specs.Membership.{Group}
use Rattle.vr_model.specs.Steps.{ClientStep, AreClientSteps, first_client}
use Rattle.laws_clients.specs.ClientHistory.{IsHistoryOf}
use Rattle.laws_threads.specs.CodeMoves.{CodeMove, Starts, Steps, Dies, Serves, AreOneRun, clients_in}
use Rattle.laws_threads.specs.OwnMoves.{OwnMove, AllTakeHanded, own_moves, own_steps}
use Rattle.laws_threads.specs.SilentMoves.{ShowsTheSame}
use Rattle.laws_threads.specs.ClientStarts.{AreStepsOverStarts, asked, WithClientsByRule}
use Rattle.laws_threads.specs.Ran.{HaveRan, RanAsOne}
use Rattle.laws_threads.proofs.Silent.{both_without, shows_the_same}
use Rattle.laws_threads.proofs.Widening.{by_rule}

-- a client's own steps are those of its number among all
abbrev steps_of : ℕ → List (ℕ × ClientStep Command Answer) → List (ClientStep Command Answer)
steps_of c [] = []
steps_of c (x ∷ xs) = cond (eqb c x.0) (x.1 ∷ steps_of c xs) (steps_of c xs)

module _ {S : Type 0} where
  own_among : (c : ℕ) (ms : List (CodeMove S)) → own_steps c ms ≡ steps_of c (clients_in ms)
  own_among c [] = refl
  own_among c (Starts i q found left number starts ∷ ms) = own_among c ms
  own_among c (Steps i e place r left result ∷ ms) = own_among c ms
  own_among c (Dies i e place left ∷ ms) = own_among c ms
  own_among c (Serves e d out place ∷ ms) = ap (λ (xs : List (ClientStep Command Answer)). cond (eqb c e) (d ∷ xs) xs) (own_among c ms)

  same_own : (c : ℕ) (ms ns : List (CodeMove S)) → clients_in ns ≡ clients_in ms → own_steps c ns ≡ own_steps c ms
  same_own c ms ns e = own_among c ns ∙ ap (λ (xs : List (ℕ × ClientStep Command Answer)). steps_of c xs) e ∙ sym (own_among c ms)

module _ {S : Type 0} (IsRight : ℕ → List (OwnMove S) → Type 0) (g : Group) where
  pub ran : ((first second : List (CodeMove S)) → ((i : ℕ) → i < group_size g.f → IsRight i (own_moves i (first ++ second))) → ((i : ℕ) → group_size g.f ≤ i → own_moves i (first ++ second) ≡ [])
      → ((c : ℕ) → AreClientSteps g.f c g.answer first_client (own_steps c (first ++ second))) → AllTakeHanded g [] (first ++ second) → AreOneRun g first second)
      → ((first second : List (CodeMove S)) → AreOneRun g first second → IsHistoryOf g.answer (clients_in first))
      → (early late : List (CodeMove S)) → HaveRan IsRight g early late → RanAsOne g early late
  ran law sees early late did =
      let kept : List (CodeMove S) = did.kept_early ++ did.kept_late in
      let all : ShowsTheSame g (early ++ late) kept = shows_the_same g (early ++ late) kept (both_without g early did.kept_early late did.kept_late did.without_early did.without_late) in
      let front : ShowsTheSame g early did.kept_early = shows_the_same g early did.kept_early did.without_early in
      let w : WithClientsByRule g did.kept_early did.kept_late = by_rule g did.kept_early did.kept_late
      (λ c. subst (λ (ds : List (ClientStep Command Answer)). AreStepsOverStarts g.f c g.answer first_client ds) (sym (same_own c (early ++ late) kept all.clients)) (did.clients c))
      (all.taken did.taken) in
      let one : AreOneRun g w.first w.second = law w.first w.second
      (λ i low. subst (λ (xs : List (OwnMove S)). IsRight i xs) (sym (w.replicas i)) (did.replicas i low)) (λ i high. w.replicas i ∙ did.no_others i high) w.clients w.taken in
      record {
        first = w.first;
        second = w.second;
        one = one;
        kept = did.kept_early;
        without = did.without_early;
        replicas = w.first_replicas;
        history = sees w.first w.second one;
        asks = w.asks ∙ ap asked front.clients;
        handed = λ a h. w.handed a (h.0, ap (λ (ms : List code.Message). slice_get ms (h.0)) front.handed ∙ h.1);
      }
