-- The wrong rules, computed.
use Rattle.std.proofs.Common.{◌≡◌, ℕ, zero, suc, List, [], ◌∷◌, Option, Some, None, arith, refl, ap, ◌∙◌}
use Rattle.std.specs.Prelude.{slice_get}
use Rattle.std.proofs.lemmas.Option.{same_Some}
use Rattle.vr_model.specs.Logs.{Request}
use Rattle.vr_model.specs.Messages.{Party, Replica, Client, Message}
use Rattle.vr_model.specs.Rules.{receives}
use Rattle.vr_model.specs.World.{World, Event, Submit, Retry, ClientRestart, Deliver, Timeout, Resend, Crash, Restart, StoreFail, Done, comes, comes_to, steps, run, refusal, if_none}
use Rattle.vr_model.specs.Report.{IsAnswered, all_done}
use Rattle.laws_history.specs.WrongRules.{comes_by, steps_by, run_by, request, WrongRulesShow}
use Rattle.laws_history.proofs.NormalCase.{entry_read}
use Rattle.laws_history.proofs.Reports.{entry_get}

-- with the right rules
steps_right : {C A : Type 0} (answer : List C → A) (w : World C A) (e : Event C) → steps_by 1 answer (λ i r from body. receives 1 i answer r from body) w e ≡ steps 1 answer w e Done
steps_right {C} {A} answer w (Deliver n) = by (slice_get w.sent n)
  where
    by : (m : Option (Message C A)) → comes_by 1 answer (λ i r from body. receives 1 i answer r from body) w m ≡ comes 1 answer w m Done
    by None = refl
    by (Some m) = to m.to
      where
        to : (p : Party) → comes_by 1 answer (λ i r from body. receives 1 i answer r from body) w (Some (record m { to = p })) ≡ comes_to 1 answer w p m.from m.body Done
        to (Replica i) = refl
        to (Client c) = refl
steps_right answer w (Submit c command) = refl
steps_right answer w (Retry c) = refl
steps_right answer w (ClientRestart c) = refl
steps_right answer w (Timeout i) = refl
steps_right answer w (Resend i) = refl
steps_right answer w (Crash i) = refl
steps_right answer w (Restart i x) = refl
steps_right answer w (StoreFail i keeps_new) = refl

run_right : {C A : Type 0} (answer : List C → A) (es : List (Event C)) (w : World C A) → run_by 1 answer (λ i r from body. receives 1 i answer r from body) es w ≡ run 1 answer (all_done es) w
run_right answer [] w = refl
run_right {C} {A} answer (e ∷ es) w =
    run_right answer es _ ∙ ap (λ (v : World C A). run 1 answer (all_done es) (if_none (refusal 1 w e) v w)) (steps_right answer w e)

-- whose request stands in a list of one, or of two
of_one : {C A : Type 0} (answer : List C → A) (m : Request C) (c n : ℕ) (x : A) → (m.client ≡ c → ⊥) → IsAnswered answer (m ∷ []) c n x → ⊥
of_one answer m c n x ne s = go s.place (entry_get (m ∷ []) s.place s.request s.entry)
  where
    go : (k : ℕ) → slice_get (m ∷ []) k ≡ Some s.request → ⊥
    go zero e = ne (ap (λ (y : Request _). y.client) (same_Some _ _ e) ∙ s.client_is)
    go (suc k) e = absurd cc

of_two : {C A : Type 0} (answer : List C → A) (m q : Request C) (c n : ℕ) (x : A) → (m.client ≡ c → ⊥) → (q.client ≡ c → ⊥) → IsAnswered answer (m ∷ q ∷ []) c n x → ⊥
of_two answer m q c n x first second s = go s.place (entry_get (m ∷ q ∷ []) s.place s.request s.entry)
  where
    go : (k : ℕ) → slice_get (m ∷ q ∷ []) k ≡ Some s.request → ⊥
    go zero e = first (ap (λ (y : Request _). y.client) (same_Some _ _ e) ∙ s.client_is)
    go (suc zero) e = second (ap (λ (y : Request _). y.client) (same_Some _ _ e) ∙ s.client_is)
    go (suc (suc k)) e = absurd cc

pub wrong_rules_show : {C A : Type 0} (answer : List C → A) (a b c : C) → WrongRulesShow answer a b c
wrong_rules_show answer a b c = record {
  right = run_right answer;
  before_a_majority = refl;
  before_a_majority_shows = λ all. of_one answer (request 0 a) 1 1 _ (λ e. absurd (omega arith)) all.1.0;
  runs_again = refl;
  runs_again_shows = λ once. absurd (let e : 0 ≡ 1 = once 0 1 (request 0 a) (request 0 a) (entry_read _ 0 _ refl) (entry_read _ 1 _ refl) refl refl in omega arith);
  cuts = refl;
  cuts_shows = λ all. of_one answer (request 0 a) 1 1 _ (λ e. absurd (omega arith)) all.1.0;
  longest_wins = refl;
  longest_wins_shows = λ all. of_two answer (request 0 a) (request 1 b) 2 1 _ (λ e. absurd (omega arith)) (λ e. absurd (omega arith)) all.0;
  forgets_order = refl;
  forgets_shows = λ all. of_one answer (request 0 a) 1 1 _ (λ e. absurd (omega arith)) all.1.0;
}
