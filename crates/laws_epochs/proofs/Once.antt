-- A machine begins an epoch once.
use Rattle.std.proofs.Common.{◌≡◌, ℕ, List, [], ◌∷◌, ◌++◌, Option, Some, None, refl, sym, ap, ◌∙◌, subst, inl, inr, is_some}
use Rattle.std.proofs.lemmas.Bool.{false≢true}
use Rattle.std.proofs.lemmas.Option.{same_Some}
use Rattle.vr_model.specs.Replicas.{put}
use Rattle.laws_history.proofs.Tables.{put_cases}
use Rattle.net_hello.specs.declared.hello.Epoch.{Epoch}
use Rattle.plc_epochs.specs.Epochs.{is_same}
use Rattle.plc_epochs.specs.Recovering.{first_nonce}
use Rattle.plc_epochs.specs.Table
use Rattle.plc_epochs.specs.Table.{kept_in, phase_from}
use Rattle.plc_epochs.specs.declared.kept.Kept.{Kept}
use Rattle.plc_epochs.specs.declared.kept.Kept.TheVariants as keeps
use Rattle.plc_epochs.specs.declared.cold_start.ColdStart.{ColdStart}
use Rattle.plc_epochs.specs.declared.cold_start.Phase.{Phase}
use Rattle.plc_epochs.specs.declared.cold_start.Phase.TheVariants.{Waiting, Above, Entering, Entered, Beginning, TakingPart, Recovering}
use Rattle.plc_epochs.specs.declared.cold_start.Step.{Step}
use Rattle.plc_epochs.specs.declared.cold_start.Step.TheVariants as steps
use Rattle.plc_epochs.proofs.GoingOn.{either}
use Rattle.laws_epochs.specs.Machines.{Telling, StoreHas, Move, Starts, Takes, Greets, Writes, Stops, GoesByHand, Machine, Machines, to_write, May, after_move, AreMoves, after_moves, at_rest}
use Rattle.laws_epochs.specs.Beginnings.{BeganBefore, HasBegun, IsBeginning}
use Rattle.laws_epochs.proofs.Later.{begun_on, entered_only, hand_begun, same_epoch}
use Rattle.laws_epochs.proofs.Changes.{IsEntered, Done, done}
use Rattle.laws_epochs.proofs.Standing.{GoingOn, split}

-- ---- the step by which it begins one

abbrev started_by : Step → Option Epoch
started_by (steps.Starts epoch) = Some epoch
started_by step = None

abbrev epoch_or : Epoch → Option Epoch → Epoch
epoch_or default (Some epoch) = epoch
epoch_or default None = default

-- It was beginning it, and its store has that; and takes part in it then.
pub record BeginsNow (e : Epoch) (store : Kept) (a b : ColdStart) : Type 0 where
  pub was : IsBeginning e a.phase
  pub has : HasBegun e store
  pub is : b.phase ≡ TakingPart e

other_step : {R : Type 0} (step : Step) (e : Epoch) → step ≡ steps.Starts e → started_by step ≡ None → R
other_step step e is none = absurd (false≢true (ap is_some (sym none ∙ ap started_by is)))

begun_now : (own e : Epoch) (store : Kept) (a b : ColdStart) (step : Step) → a.phase ≡ Beginning own → step ≡ steps.Starts e → Table.StoresBegun own store a step b → BeginsNow e store a b
begun_now own e (keeps.Begun has) a b step was is h =
    either (is_same has own) _ _ _ h
    (λ same g.
    let own_is : own ≡ e = ap (λ s. epoch_or own (started_by s)) (sym g.0 ∙ is) in
    record {
      was = subst (λ p. IsBeginning e p) (sym was) own_is;
      has = inl (same_epoch has own same ∙ own_is);
      is = ap (λ (x : ColdStart). x.phase) g.1 ∙ ap TakingPart own_is;
    })
    (λ same s. other_step step e is (ap started_by s.0))
begun_now own e keeps.Nothing a b step was is h = other_step step e is (ap started_by h.0)
begun_now own e (keeps.Above above) a b step was is h = other_step step e is (ap started_by h.0)
begun_now own e (keeps.Entered has) a b step was is h = other_step step e is (ap started_by h.0)

entered_now : (own e : Epoch) (heard : List (Option ℕ)) (store : Kept) (a b : ColdStart) (step : Step) → step ≡ steps.Starts e → Table.StoresEntered own heard store a step b → BeginsNow e store a b
entered_now own e heard (keeps.Entered has) a b step is h =
    either (is_same has own) _ _ _ h (λ same g. other_step step e is (ap started_by g.0)) (λ same s. other_step step e is (ap started_by s.0))
entered_now own e heard keeps.Nothing a b step is h = other_step step e is (ap started_by h.0)
entered_now own e heard (keeps.Above above) a b step is h = other_step step e is (ap started_by h.0)
entered_now own e heard (keeps.Begun has) a b step is h = other_step step e is (ap started_by h.0)

starts_in : (p : Phase) (e : Epoch) (store : Kept) (a b : ColdStart) (step : Step) → a.phase ≡ p → step ≡ steps.Starts e → Table.StoresIn p store a step b → BeginsNow e store a b
starts_in (Beginning own) e store a b step was is h = begun_now own e store a b step was is h
starts_in (Entering own heard) e store a b step was is h = entered_now own e heard store a b step is h
starts_in _ e store a b step was is h = other_step step e is (ap started_by h.0)

pub starts_now : (e : Epoch) (store : Kept) (a b : ColdStart) → Table.Stores store a (steps.Starts e) b → BeginsNow e store a b
starts_now e store a b h = starts_in a.phase e store a b (steps.Starts e) refl refl h

-- ---- it has begun it, and is not beginning it

abbrev IsDone : Epoch → Phase → Type 0
IsDone e p = (HasBegun e (kept_in p)) × (IsBeginning e p → ⊥)

abbrev HasDone : Epoch → Machine → Type 0
HasDone e m = (HasBegun e m.store) × ((a : ColdStart) → m.runs ≡ Some a → IsDone e a.phase)

-- who has only entered it hasn't begun it
not_entered : (p : Phase) (e : Epoch) → IsEntered e p → HasBegun e (kept_in p) → ⊥
not_entered (Entered own heard) e is h = entered_only own e is h
not_entered (Waiting heard above) e is h = is
not_entered (Above above) e is h = is
not_entered (Entering own heard) e is h = is
not_entered (Beginning own) e is h = is
not_entered (TakingPart own) e is h = is
not_entered (Recovering own r) e is h = is

module _ (f : ℕ) (e : Epoch) where
  starts_done : (k : Kept) (nonce since : ℕ) → HasBegun e k → IsDone e (phase_from k nonce since)
  starts_done keeps.Nothing nonce since h = absurd h
  starts_done (keeps.Above above) nonce since h = absurd h
  starts_done (keeps.Entered own) nonce since h = (h, λ x. x)
  starts_done (keeps.Begun own) nonce since h = (h, λ x. x)

  running : (store : Kept) (b : ColdStart) → HasBegun e store → IsDone e b.phase → HasDone e (record { store = store; runs = Some b })
  running store b h done = (h, λ a runs. subst (λ (x : ColdStart). IsDone e x.phase) (same_Some b a runs) done)

  stopped : (store : Kept) → HasBegun e store → HasDone e (record { store = store; runs = None })
  stopped store h = (h, λ a runs. absurd (false≢true (ap is_some runs)))

  steps_done : (telling : Telling) (store : Kept) (a b : ColdStart) → Done telling store a b → HasBegun e (kept_in b.phase) → IsDone e a.phase → IsDone e b.phase
  steps_done telling store a b d up was = (
    up,
    λ begins. elim (d.changes.begins e begins) [
      | inl still ↦ was.1 still
      | inr entered ↦ not_entered a.phase e entered was.0
    ],
  )

  written : (store : Kept) (r : Option ColdStart) → HasBegun e store → ((a : ColdStart) → r ≡ Some a → IsDone e a.phase) → HasDone e (record { store = to_write store r; runs = r })
  written store None h done = (h, done)
  written store (Some b) h done = ((done b refl).0, done)

  -- machine j changes to this one, and machine i has done it
  changed : (w : Machines) (i j : ℕ) (m : Machine) → HasDone e (w.at i) → (HasDone e (w.at j) → HasDone e m) → HasDone e (put w.at j m i)
  changed w i j m h up = put_cases w.at j m i (λ (x : Machine). HasDone e x) (λ is. up (subst (λ k. HasDone e (w.at k)) is h)) (λ other. h)

  moved : (w : Machines) (i : ℕ) (m : Move) → GoingOn → May f w m → HasDone e (w.at i) → HasDone e ((after_move f w m).at i)
  moved w i (Starts j place image count since becomes) goes may h =
      changed w i j (record { store = (w.at j).store; runs = Some becomes }) h
      (λ k. running (w.at j).store becomes k.0 (subst (λ p. IsDone e p) (sym may.4.2) (starts_done (w.at j).store (first_nonce count) since k.0)))
  moved w i (Takes j telling step becomes) goes may h =
      changed w i j (record { store = (w.at j).store; runs = Some becomes }) h
      (λ k.
      let was = k.1 may.0 may.1 in
      let up = begun_on (kept_in (may.0).phase) (kept_in becomes.phase) e (goes telling (w.at j).store may.0 becomes step may.3) was.0 in
      running (w.at j).store becomes k.0 (steps_done telling (w.at j).store may.0 becomes (done telling (w.at j).store may.0 becomes step may.3) up was))
  moved w i (Greets j epoch) goes may h = h
  moved w i (Writes j) goes may h =
      changed w i j (record { store = to_write (w.at j).store (w.at j).runs; runs = (w.at j).runs }) h (λ k. written (w.at j).store (w.at j).runs k.0 k.1)
  moved w i (Stops j) goes may h = changed w i j (record { store = (w.at j).store; runs = None }) h (λ k. stopped (w.at j).store k.0)
  moved w i (GoesByHand j image has) goes may h =
      changed w i j (record { store = has; runs = None }) h (λ k. stopped has (hand_begun (w.at j).store has e image may.1 k.0))

  over : (ms : List Move) (w : Machines) (i : ℕ) → GoingOn → AreMoves f w ms → HasDone e (w.at i) → HasDone e ((after_moves f w ms).at i)
  over [] w i goes right h = h
  over (m ∷ ms) w i goes right h = over ms (after_move f w m) i goes right.1 (moved w i m goes right.0 h)

  -- behind the step by which it begins the epoch it has begun it
  begins_it : (w : Machines) (i : ℕ) (b : ColdStart) → May f w (Takes i StoreHas (steps.Starts e) b) → HasDone e ((after_move f w (Takes i StoreHas (steps.Starts e) b)).at i)
  begins_it w i b may =
      let now = starts_now e (w.at i).store may.0 b may.3 in
      let part : IsDone e (TakingPart e) = (inl refl, λ x. x) in
      put_cases w.at i (record { store = (w.at i).store; runs = Some b }) i (λ (x : Machine). HasDone e x)
      (λ is. running (w.at i).store b now.has (subst (λ p. IsDone e p) (sym now.is) part)) (λ other. absurd (other refl))

  -- who has begun it isn't beginning it
  not_again : (w : Machines) (i : ℕ) (late : List Move) (b : ColdStart) → GoingOn → AreMoves f w (late ++ Takes i StoreHas (steps.Starts e) b ∷ []) → HasDone e (w.at i) → ⊥
  not_again w i late b goes right h =
      let rest = split f late (Takes i StoreHas (steps.Starts e) b ∷ []) w right in
      let done = over late w i goes rest.0 h in
      let may = rest.1.0 in
      let now = starts_now e ((after_moves f w late).at i).store may.0 b may.3 in
      (done.1 may.0 may.1).1 now.was

  pub never_again : (i : ℕ) (stores : ℕ → Kept) (early late : List Move) (b : ColdStart) → GoingOn
      → AreMoves f (at_rest stores) (early ++ (late ++ Takes i StoreHas (steps.Starts e) b ∷ [])) → BeganBefore e ((after_moves f (at_rest stores) early).at i) → ⊥
  never_again i stores early late b goes right h =
      let parts = split f early (late ++ Takes i StoreHas (steps.Starts e) b ∷ []) (at_rest stores) right in
      not_again (after_moves f (at_rest stores) early) i late b goes parts.1 (h.store, h.process)

  pub once : (i : ℕ) (stores : ℕ → Kept) (early late : List Move) (a b : ColdStart) → GoingOn
      → AreMoves f (at_rest stores) (early ++ (Takes i StoreHas (steps.Starts e) a ∷ (late ++ Takes i StoreHas (steps.Starts e) b ∷ []))) → ⊥
  once i stores early late a b goes right =
      let first = Takes i StoreHas (steps.Starts e) a in
      let second = Takes i StoreHas (steps.Starts e) b in
      let parts = split f early (first ∷ (late ++ second ∷ [])) (at_rest stores) right in
      let w : Machines = after_moves f (at_rest stores) early in
      not_again (after_move f w first) i late b goes parts.1.1 (begins_it w i a parts.1.0)
