-- The worked deeds: whose replica is down, and behind which deed an event happens.
use Rattle.std.proofs.Common.{◌≡◌, ℕ, zero, suc, ◌<◌, ◌≤◌, Bool, true, false, List, [], ◌∷◌, ◌++◌, Some, refl, sym, ap, ◌∙◌, subst, arith, take, append-nil}
use Rattle.std.proofs.lemmas.Bool.{false≢true}
use Rattle.vr_model.specs.Groups.{group_size}
use Rattle.vr_model.specs.Replicas.{is_down}
use Rattle.vr_model.specs.World.{World, Event, Completion, Crash, Timeout, Done}
use Rattle.vr_model.specs.Views.{world}
use Rattle.net_hello.specs.declared.hello.Epoch.{Epoch}
use Rattle.plc_epochs.specs.Recovering.{first_nonce, recovering_under}
use Rattle.plc_epochs.specs.declared.cold_start.Phase.TheVariants.{TakingPart, Recovering}
use Rattle.plc_epochs.specs.declared.cold_start.Step.TheVariants as steps
use Rattle.laws_epochs.specs.Machines.{TimeHasPassed, Takes}
use Rattle.laws_epochs.specs.LostDisks as lost
use Rattle.laws_epochs.specs.LostDisks.{AreEvents, after_events, with_disks}
use Rattle.laws_epochs.specs.WorkedLosses as worked
use Rattle.laws_epochs.specs.WorkedLosses.{epoch, in_epoch_1}
use Rattle.laws_epochs.proofs.LosingMajorities.{split}
use Rattle.laws_epochs.proofs.WorkedLosses as events
use Rattle.laws_epoch_ends.specs.Processes.{IsAt}
use Rattle.laws_epoch_ends.specs.LostDisks.{Deed, Does, Happens, doings_in, events_in, BeginsIn, HasLaterBegun, TakesPart, TakesPartNoMore}
use Rattle.laws_epoch_ends.specs.WorkedLosses.{WorkedLosses as Holds, all_deeds, all_events, as_deeds, begins_and_is_lost}
use Rattle.laws_epoch_ends.proofs.Lists.{first_of, is_full, tail_of}

-- ---- lists of deeds

module _ {C : Type 0} where
  abbrev is_doing : Deed C → Bool
  is_doing (Does v) = true
  is_doing (Happens e event c) = false

  abbrev event_of : Deed C → Event C
  event_of (Does v) = Timeout 0
  event_of (Happens e event c) = event

  full : (xs : List (Deed C)) (x : Deed C) (ys : List (Deed C)) → is_full (xs ++ x ∷ ys) ≡ true
  full [] x ys = refl
  full (z ∷ zs) x ys = refl

  -- where machines alone do something no event happens
  quiet : (vs : List lost.Event) (early late : List (Deed C)) (e : Epoch) → as_deeds vs ≡ early ++ late → events_in e early ≡ []
  quiet vs [] late e h = refl
  quiet [] (y ∷ ys) late e h = absurd (false≢true (ap is_full h))
  quiet (v ∷ vs) (Does w ∷ ys) late e h = quiet vs ys late e (ap tail_of h)
  quiet (v ∷ vs) (Happens own event c ∷ ys) late e h = absurd (false≢true (sym (ap (λ xs. is_doing (first_of (Does v) xs)) h)))

  no_event : (vs : List lost.Event) (early late : List (Deed C)) (e : Epoch) (event : Event C) (c : Completion) → as_deeds vs ≡ early ++ Happens e event c ∷ late → ⊥
  no_event [] [] late e event c h = false≢true (ap is_full h)
  no_event [] (y ∷ ys) late e event c h = false≢true (ap is_full h)
  no_event (v ∷ vs) [] late e event c h = false≢true (sym (ap (λ xs. is_doing (first_of (Does v) xs)) h))
  no_event (v ∷ vs) (y ∷ ys) late e event c h = no_event vs ys late e event c (ap tail_of h)

  -- of machines' deeds and one event between them, the event stands there
  at_event : (vs more : List lost.Event) (x : Deed C) (early late : List (Deed C)) (e : Epoch) (event : Event C) (c : Completion) → as_deeds vs ++ x ∷ as_deeds more ≡ early ++ Happens e event c ∷ late
      → (early ≡ as_deeds vs) × (x ≡ Happens e event c)
  at_event [] more x [] late e event c h = (refl, ap (first_of x) h)
  at_event [] more x (y ∷ ys) late e event c h = absurd (no_event more ys late e event c (ap tail_of h))
  at_event (v ∷ vs) more x [] late e event c h = absurd (false≢true (sym (ap (λ xs. is_doing (first_of x xs)) h)))
  at_event (v ∷ vs) more x (y ∷ ys) late e event c h =
      let rest = at_event vs more x ys late e event c (ap tail_of h) in
      (ap (λ z. z ∷ ys) (sym (ap (first_of y) h)) ∙ ap (λ xs. Does v ∷ xs) rest.0, rest.1)

  -- one event alone is no deed of a machine
  not_by_one : (x : Deed C) (early : List (Deed C)) (v : lost.Event) (late : List (Deed C)) → is_doing x ≡ false → x ∷ [] ≡ early ++ Does v ∷ late → ⊥
  not_by_one x [] v late none h = false≢true (sym none ∙ ap (λ xs. is_doing (first_of x xs)) h)
  not_by_one x (y ∷ ys) v late none h = false≢true (ap is_full (ap tail_of h) ∙ full ys (Does v) late)

module _ {C A : Type 0} (answer : List C → A) (low : 1 ≤ 1) (high : 1 ≤ 3) where
  abbrev first_crash : Deed C
  first_crash = Happens (epoch 1) (Crash 0) Done

  abbrev second_crash : Deed C
  second_crash = Happens (epoch 1) (Crash 1) Done

  abbrev crashed : List (Event C × Completion) → World C A
  crashed es = world 1 answer ((Crash 0, Done) ∷ ((Crash 1, Done) ∷ es))

  at_place : (i : ℕ) → i < 3 → (i ≡ 2 → ⊥) → is_down ((crashed []).replicas i).status ≡ true
  at_place zero within other = refl
  at_place (suc zero) within other = refl
  at_place (suc (suc zero)) within other = absurd (other refl)
  at_place (suc (suc (suc n))) within other = absurd (omega (arith, within))

  -- machine 2 recovers there in the end
  recovers : TakesPart (epoch 1) ((after_events 1 (with_disks in_epoch_1) (doings_in (all_deeds {C = C} low high))).machines.at 2)
  recovers = record { value = worked.machine low high 2 (Recovering (epoch 1) (recovering_under (first_nonce 1) 2000)); runs = refl; part = refl }

  closed : (early late : List (Deed C)) (i : ℕ) → all_deeds {C = C} low high ≡ early ++ late → i < group_size 1 → HasLaterBegun (epoch 1) early → TakesPartNoMore 1 answer in_epoch_1 (epoch 1) early late i
      → is_down ((world 1 answer (events_in (epoch 1) early)).replicas i).status ≡ true
  closed [] late i is within begun no_more =
      absurd (false≢true (ap is_full begun.is ∙ full begun.early (Does (lost.Moves (Takes begun.machine (TimeHasPassed begun.now) (steps.Begins begun.next) begun.becomes))) begun.late))
  closed (x ∷ []) late i is within begun no_more =
      absurd (not_by_one x begun.early (lost.Moves (Takes begun.machine (TimeHasPassed begun.now) (steps.Begins begun.next) begun.becomes)) begun.late (subst (λ d. is_doing d ≡ false) (ap (first_of x) is) refl) begun.is)
  closed (x ∷ (y ∷ rest)) late i is within begun no_more =
      let one : first_crash ≡ x = ap (first_of x) is in
      let two : second_crash ≡ y = ap (λ ds. first_of y (tail_of ds)) is in
      let none : events_in (epoch 1) rest ≡ [] = quiet (all_events low high) rest late (epoch 1) (ap (λ ds. tail_of (tail_of ds)) is) in
      let other : i ≡ 2 → ⊥ = λ it. no_more late [] (sym (append-nil late))
      (subst (λ ds. TakesPart (epoch 1) ((after_events 1 (with_disks in_epoch_1) (doings_in ds)).machines.at i)) is
      (subst (λ j. TakesPart (epoch 1) ((after_events 1 (with_disks in_epoch_1) (doings_in (all_deeds {C = C} low high))).machines.at j)) (sym it) recovers)) in
      let down : is_down ((crashed (events_in (epoch 1) rest)).replicas i).status ≡ true =
      subst (λ es. is_down ((crashed es).replicas i).status ≡ true) (sym none) (at_place i within other) in
      subst (λ (p : Deed C × Deed C). is_down ((world 1 answer (events_in (epoch 1) (p.0 ∷ (p.1 ∷ rest)))).replicas i).status ≡ true) (λ k. (one k, two k)) down

  behind : (early late : List (Deed C)) (event : Event C) (completion : Completion) (i : ℕ) → begins_and_is_lost {C = C} low high ≡ early ++ Happens (epoch 2) event completion ∷ late
      → BeginsIn (begins_and_is_lost {C = C} low high) i (epoch 2) → IsAt (world 1 answer (events_in (epoch 2) early)) event i → BeginsIn early i (epoch 2)
  behind early late event completion i is begins at =
      let parts = at_event (worked.one_begins low high) (lost.LosesDisk 1 ∷ []) (Happens (epoch 2) (Timeout 1) Done) early late (epoch 2) event completion is in
      let it : i ≡ 1 = subst (λ (x : Event C). IsAt (world 1 answer (events_in (epoch 2) early)) x i) (sym (ap event_of parts.1)) at in
      let began : BeginsIn (as_deeds {C = C} (worked.one_begins low high)) 1 (epoch 2) = record {
        early = as_deeds (take 8 (worked.one_begins low high));
        becomes = worked.machine low high 1 (TakingPart (epoch 2));
        late = [];
        is = refl;
      } in
      subst (λ ds. BeginsIn ds i (epoch 2)) (sym parts.0) (subst (λ j. BeginsIn (as_deeds {C = C} (worked.one_begins low high)) j (epoch 2)) (sym it) began)

  pub worked_losses : Holds {C = C} low high {A = A} answer
  worked_losses = record {
    hosted = record { doings = (events.worked low high).may; closed = closed };
    of_processes = record {
      doings = (split 1 (worked.one_is_lost low high) (worked.others_greet low high ++ worked.one_waits low high) (with_disks in_epoch_1) (events.worked low high).may).0;
      behind = behind;
    };
  }
