-- A machine that waits above an epoch takes part in none up to it.
use Rattle.std.proofs.Common.{◌≡◌, ℕ, true, List, [], ◌∷◌, ◌++◌, Option, Some, None, refl, sym, ap, ◌∙◌, subst, inl, inr, is_some}
use Rattle.std.proofs.lemmas.Bool.{false≢true}
use Rattle.std.proofs.lemmas.Option.{same_Some}
use Rattle.vr_model.specs.Replicas.{put}
use Rattle.laws_history.proofs.Tables.{put_cases}
use Rattle.net_hello.specs.declared.hello.Epoch.{Epoch}
use Rattle.plc_epochs.specs.Epochs.{is_later}
use Rattle.plc_epochs.specs.Recovering.{first_nonce}
use Rattle.plc_epochs.specs.Table.{kept_in, phase_from, spoken_in}
use Rattle.plc_epochs.specs.declared.kept.Kept.{Kept}
use Rattle.plc_epochs.specs.declared.kept.Kept.TheVariants as keeps
use Rattle.plc_epochs.specs.declared.cold_start.ColdStart.{ColdStart}
use Rattle.plc_epochs.specs.declared.cold_start.Phase.{Phase}
use Rattle.plc_epochs.specs.declared.cold_start.Phase.TheVariants.{Waiting, Above, Entering, Entered, Beginning, TakingPart, Recovering}
use Rattle.laws_epochs.specs.Machines.{Move, Starts, Takes, Greets, Writes, Stops, GoesByHand, Machine, Machines, to_write, May, after_move, AreMoves, after_moves, at_rest}
use Rattle.laws_epochs.specs.Beginnings.{IsBeyond, TakesPartBeyond, WaitsAbove}
use Rattle.laws_epochs.proofs.Later.{beyond_on, hand_beyond}
use Rattle.laws_epochs.proofs.Standing.{GoingOn, joined, split}

-- its store is beyond the epoch, and so is what its process would have it keep
abbrev AreBeyond : Epoch → Machine → Type 0
AreBeyond e m = (IsBeyond e m.store) × ((a : ColdStart) → m.runs ≡ Some a → IsBeyond e (kept_in a.phase))

-- who takes part in an epoch would have it kept as begun
spoken_beyond : (p : Phase) (e own : Epoch) → spoken_in p ≡ Some own → IsBeyond e (kept_in p) → is_later own e ≡ true
spoken_beyond (TakingPart begun) e own h k = subst (λ x. is_later x e ≡ true) (same_Some begun own h) k
spoken_beyond (Recovering begun r) e own h k = subst (λ x. is_later x e ≡ true) (same_Some begun own h) k
spoken_beyond (Waiting heard above) e own h k = absurd k
spoken_beyond (Above above) e own h k = absurd (false≢true (ap is_some h))
spoken_beyond (Entering other heard) e own h k = absurd (false≢true (ap is_some h))
spoken_beyond (Entered other heard) e own h k = absurd (false≢true (ap is_some h))
spoken_beyond (Beginning other) e own h k = absurd (false≢true (ap is_some h))

module _ (f : ℕ) (e : Epoch) where
  starts_beyond : (k : Kept) (nonce since : ℕ) → IsBeyond e k → IsBeyond e (kept_in (phase_from k nonce since))
  starts_beyond keeps.Nothing nonce since h = absurd h
  starts_beyond (keeps.Above above) nonce since h = h
  starts_beyond (keeps.Entered own) nonce since h = h
  starts_beyond (keeps.Begun own) nonce since h = h

  running : (store : Kept) (b : ColdStart) → IsBeyond e store → IsBeyond e (kept_in b.phase) → AreBeyond e (record { store = store; runs = Some b })
  running store b h k = (h, λ a runs. subst (λ (x : ColdStart). IsBeyond e (kept_in x.phase)) (same_Some b a runs) k)

  stopped : (store : Kept) → IsBeyond e store → AreBeyond e (record { store = store; runs = None })
  stopped store h = (h, λ a runs. absurd (false≢true (ap is_some runs)))

  written : (store : Kept) (r : Option ColdStart) → IsBeyond e store → ((a : ColdStart) → r ≡ Some a → IsBeyond e (kept_in a.phase)) → AreBeyond e (record { store = to_write store r; runs = r })
  written store None h k = (h, k)
  written store (Some b) h k = (k b refl, k)

  -- machine j changes to this one
  changed : (w : Machines) (i j : ℕ) (m : Machine) → AreBeyond e (w.at i) → (AreBeyond e (w.at j) → AreBeyond e m) → AreBeyond e (put w.at j m i)
  changed w i j m h up = put_cases w.at j m i (λ (x : Machine). AreBeyond e x) (λ is. up (subst (λ k. AreBeyond e (w.at k)) is h)) (λ other. h)

  moved : (w : Machines) (i : ℕ) (m : Move) → GoingOn → May f w m → AreBeyond e (w.at i) → AreBeyond e ((after_move f w m).at i)
  moved w i (Starts j place image count since becomes) goes may h =
      changed w i j (record { store = (w.at j).store; runs = Some becomes }) h
      (λ k. running (w.at j).store becomes k.0 (subst (λ p. IsBeyond e (kept_in p)) (sym may.4.2) (starts_beyond (w.at j).store (first_nonce count) since k.0)))
  moved w i (Takes j telling step becomes) goes may h =
      changed w i j (record { store = (w.at j).store; runs = Some becomes }) h
      (λ k. running (w.at j).store becomes k.0 (beyond_on (kept_in (may.0).phase) (kept_in becomes.phase) e (goes telling (w.at j).store may.0 becomes step may.3) (k.1 may.0 may.1)))
  moved w i (Greets j epoch) goes may h = h
  moved w i (Writes j) goes may h =
      changed w i j (record { store = to_write (w.at j).store (w.at j).runs; runs = (w.at j).runs }) h (λ k. written (w.at j).store (w.at j).runs k.0 k.1)
  moved w i (Stops j) goes may h = changed w i j (record { store = (w.at j).store; runs = None }) h (λ k. stopped (w.at j).store k.0)
  moved w i (GoesByHand j image has) goes may h =
      changed w i j (record { store = has; runs = None }) h (λ k. stopped has (hand_beyond (w.at j).store has e image may.1 k.0))

  over : (ms : List Move) (w : Machines) (i : ℕ) → GoingOn → AreMoves f w ms → AreBeyond e (w.at i) → AreBeyond e ((after_moves f w ms).at i)
  over [] w i goes right h = h
  over (m ∷ ms) w i goes right h = over ms (after_move f w m) i goes right.1 (moved w i m goes right.0 h)

  waits : (m : Machine) → WaitsAbove e m → AreBeyond e m
  waits m h = (subst (λ k. IsBeyond e k) (sym h.store) (inl refl), λ a runs. subst (λ p. IsBeyond e (kept_in p)) (sym (h.process a runs)) (inl refl))

  pub passes_by : (i : ℕ) (stores : ℕ → Kept) (early late : List Move) → GoingOn → AreMoves f (at_rest stores) (early ++ late)
      → WaitsAbove e ((after_moves f (at_rest stores) early).at i) → TakesPartBeyond e ((after_moves f (at_rest stores) (early ++ late)).at i)
  passes_by i stores early late goes right h =
      let parts = split f early late (at_rest stores) right in
      let w : Machines = after_moves f (at_rest stores) early in
      let there = over late w i goes parts.1 (waits (w.at i) h) in
      let all = subst (λ (v : Machines). AreBeyond e (v.at i)) (sym (joined f early late (at_rest stores))) there in
      record { store = all.0; part = λ a own runs part. spoken_beyond a.phase e own part (all.1 a runs) }
