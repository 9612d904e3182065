-- That what happens in the worked acts happens to a replica whose machine has begun the epoch.
use Rattle.std.proofs.Common.{◌≡◌, ℕ, ◌≤◌, Bool, true, false, List, [], ◌∷◌, ◌++◌, Some, refl, sym, ap, ◌∙◌, subst, inl, inr}
use Rattle.std.specs.Prelude.{drop, take}
use Rattle.std.proofs.lemmas.Bool.{false≢true}
use Rattle.std.proofs.lemmas.Option.{same_Some}
use Rattle.vr_model.specs.World.{World, Event, Completion, Timeout, Done}
use Rattle.vr_model.specs.Views.{world}
use Rattle.net_hello.specs.declared.hello.Epoch.{Epoch}
use Rattle.plc_epochs.specs.Epochs.{nothing_told}
use Rattle.plc_epochs.specs.Table.{kept_in}
use Rattle.plc_epochs.specs.declared.cold_start.ColdStart.{ColdStart}
use Rattle.plc_epochs.specs.declared.cold_start.Phase.TheVariants.{TakingPart}
use Rattle.laws_epochs.specs.Machines.{Move, AreMoves, at_rest}
use Rattle.laws_epochs.specs.Beginnings.{BeganBefore, HasBegun, IsBeginning}
use Rattle.laws_epochs.proofs.Standing.{split}
use Rattle.laws_epoch_ends.specs.TrueMoves.{machine_behind}
use Rattle.laws_epoch_ends.specs.Acts.{Act, Moves, Happens, events_in, moves_in}
use Rattle.laws_epoch_ends.specs.Processes.{BeginsIn, IsAt}
use Rattle.laws_epoch_ends.specs.WorkedEpochs.{epoch, in_epoch_1}
use Rattle.laws_epoch_ends.specs.WorkedEpochs as worked
use Rattle.laws_epoch_ends.specs.WorkedActs.{as_acts}
use Rattle.laws_epoch_ends.specs.WorkedProcesses.{WorkedProcesses, begins_by_hand, one_takes_part}
use Rattle.laws_epoch_ends.proofs.Lists.{first_of, is_full, tail_of}
use Rattle.laws_epoch_ends.proofs.Worked as proofs

-- ---- of moves and one event behind them, the event stands behind the moves

module _ {C : Type 0} where
  abbrev is_move : Act C → Bool
  is_move (Moves m) = true
  is_move (Happens e event c) = false

  abbrev event_of : Act C → Event C
  event_of (Moves m) = Timeout 0
  event_of (Happens e event c) = event

  full : (xs : List (Act C)) (x : Act C) (ys : List (Act C)) → is_full (xs ++ x ∷ ys) ≡ true
  full [] x ys = refl
  full (z ∷ zs) x ys = refl

  one_event : (ms : List Move) (x : Act C) (early late : List (Act C)) (e : Epoch) (event : Event C) (c : Completion) → as_acts ms ++ x ∷ [] ≡ early ++ Happens e event c ∷ late
      → (early ≡ as_acts ms) × (x ≡ Happens e event c)
  one_event [] x [] late e event c h = (refl, ap (first_of x) h)
  one_event [] x (y ∷ ys) late e event c h = absurd (false≢true (ap is_full (ap tail_of h) ∙ full ys (Happens e event c) late))
  one_event (m ∷ ms) x [] late e event c h = absurd (false≢true (sym (ap (λ xs. is_move (first_of x xs)) h)))
  one_event (m ∷ ms) x (y ∷ ys) late e event c h =
      let rest = one_event ms x ys late e event c (ap tail_of h) in
      (ap (λ z. z ∷ ys) (sym (ap (first_of y) h)) ∙ ap (λ xs. Moves m ∷ xs) rest.0, rest.1)

module _ {C A : Type 0} (answer : List C → A) (low : 1 ≤ 1) (high : 1 ≤ 3) where
  abbrev moves : List Move
  moves = one_takes_part low high

  may : AreMoves 1 (at_rest in_epoch_1) moves
  may = (split 1 moves (drop 9 (worked.by_hand low high)) (at_rest in_epoch_1) (proofs.worked low high).hand.may).0

  takes_part : BeganBefore (epoch 2) (machine_behind 1 in_epoch_1 moves 1)
  takes_part = record {
    store = inl refl;
    process = λ a runs.
        subst (λ (x : ColdStart). HasBegun (epoch 2) (kept_in x.phase) × (IsBeginning (epoch 2) x.phase → ⊥)) (same_Some (worked.machine low high 1 (TakingPart (epoch 2)) nothing_told) a runs) (inl refl, λ x. x);
  }

  behind : (early late : List (Act C)) (event : Event C) (completion : Completion) (i : ℕ) → begins_by_hand {C = C} low high ≡ early ++ Happens (epoch 2) event completion ∷ late
      → BeginsIn (begins_by_hand {C = C} low high) i (epoch 2) → IsAt (world 1 answer (events_in (epoch 2) early)) event i → BeganBefore (epoch 2) (machine_behind 1 in_epoch_1 (moves_in early) i)
  behind early late event completion i is begins at =
      let parts = one_event moves (Happens (epoch 2) (Timeout 1) Done) early late (epoch 2) event completion is in
      let it : i ≡ 1 = subst (λ (x : Event C). IsAt (world 1 answer (events_in (epoch 2) early)) x i) (sym (ap event_of parts.1)) at in
      subst (λ xs. BeganBefore (epoch 2) (machine_behind 1 in_epoch_1 (moves_in xs) i)) (sym parts.0) (subst (λ j. BeganBefore (epoch 2) (machine_behind 1 in_epoch_1 moves j)) (sym it) takes_part)

  pub worked_processes : WorkedProcesses {C = C} low high {A = A} answer
  worked_processes = record {
    of_processes = record { moves = may; behind = behind };
    begins = record {
      early = as_acts (take 8 (worked.by_hand low high));
      becomes = worked.machine low high 1 (TakingPart (epoch 2)) nothing_told;
      late = Happens (epoch 2) (Timeout 1) Done ∷ [];
      is = refl;
    };
  }
