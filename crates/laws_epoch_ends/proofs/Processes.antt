-- That what processes make of an epoch is its one run: nothing happened before to the replica that a process makes.
use Rattle.std.proofs.Common.{◌≡◌, ℕ, Bool, true, false, not, ◌||◌, cond, ltb, List, [], ◌∷◌, ◌++◌, Option, Some, None, refl, sym, ap, ◌∙◌, subst, append_assoc, append-nil}
use Rattle.std.specs.Prelude.{slice_get}
use Rattle.vr_model.specs.Groups.{group_size}
use Rattle.vr_model.specs.Messages.{Party, Replica, Client, Body, Reply, Message}
use Rattle.vr_model.specs.Replicas.{is_down, Outcome, put}
use Rattle.vr_model.specs.Rules.{receives, on_timeout, on_resend, on_restart}
use Rattle.vr_model.specs.World.{World, Event, Completion, Reason, comes, comes_to, comes_to_client, does, down, effect, ending_of, first_replica, happens, if_none, if_up, refusal, run, start, steps}
use Rattle.vr_model.specs.World.{Submit, Retry, ClientRestart, Deliver, Timeout, Resend, Crash, Restart, StoreFail}
use Rattle.vr_model.specs.Views.{world}
use Rattle.laws_history.proofs.Runs.{run_append}
use Rattle.laws_history.proofs.Tables.{put_cases, put_other}
use Rattle.net_hello.specs.declared.hello.Epoch.{Epoch}
use Rattle.plc_epochs.specs.Epochs.{is_same}
use Rattle.plc_epochs.specs.declared.kept.Kept.{Kept}
use Rattle.plc_epochs.specs.declared.cold_start.ColdStart.{ColdStart}
use Rattle.plc_epochs.specs.declared.cold_start.Step.{Step}
use Rattle.plc_epochs.specs.declared.cold_start.Step.TheVariants as taken
use Rattle.laws_epochs.specs.Machines.{Telling, StoreHas, Move, Starts, Takes, Greets, Writes, Stops, GoesByHand, AreMoves, after_moves, at_rest}
use Rattle.laws_epochs.specs.Beginnings.{BeganBefore}
use Rattle.laws_epochs.proofs.Standing.{split}
use Rattle.laws_epoch_ends.specs.TrueMoves.{machine_behind}
use Rattle.laws_epoch_ends.specs.Acts.{Act, Moves, Happens, events_in, moves_in}
use Rattle.laws_epoch_ends.specs.Processes.{AreOfProcesses, BeginsIn, IsAt, IsNew, WentTo, made_by, made_by_act, made_by_move, made_by_step, made_by_telling, with_new}
use Rattle.laws_epoch_ends.proofs.Joining.{events_append, moves_append}
use Rattle.laws_epoch_ends.proofs.Steps.{same_epoch}

-- ---- an event elsewhere leaves a new replica as it is

module _ {C A : Type 0} (f : ℕ) (answer : List C → A) (i : ℕ) where
  elsewhere : (w : World C A) (j : ℕ) (o : Outcome C A) (completion : Completion) → (i ≡ j → ⊥) → IsNew w i → IsNew (does f answer w j o completion) i
  elsewhere w j o completion other h =
      let t = effect (w.replicas j) (w.stores j) o (ending_of completion o.saves (w.failing j)) in
      (put_other w.replicas j t.replica i other ∙ h.0, put_other w.stores j t.store i other ∙ h.1)

  if_it_is_up : (w : World C A) (j : ℕ) (o : Outcome C A) (completion : Completion) → (i ≡ j → ⊥) → IsNew w i → IsNew (if_up f answer w j (does f answer w j o completion)) i
  if_it_is_up w j o completion other h = go (is_down (w.replicas j).status || not (ltb j (group_size f)))
    where
      go : (b : Bool) → IsNew (cond b w (does f answer w j o completion)) i
      go true = h
      go false = elsewhere w j o completion other h

  to_client : (w : World C A) (c : ℕ) (body : Body C A) → IsNew w i → IsNew (comes_to_client f answer w c body) i
  to_client w c (Reply v n a) h = h
  to_client w c _ h = h

  to_party : (w : World C A) (to from : Party) (body : Body C A) (completion : Completion) → (to ≡ Replica i → ⊥) → IsNew w i → IsNew (comes_to f answer w to from body completion) i
  to_party w (Replica j) from body completion other h =
      if_it_is_up w j (receives f j answer (w.replicas j) from body) completion (λ is. other (ap Replica (sym is))) h
  to_party w (Client c) from body completion other h = to_client w c body h

  delivered : (w : World C A) (m : Option (Message C A)) (completion : Completion) → ((x : Message C A) → m ≡ Some x → x.to ≡ Replica i → ⊥) → IsNew w i → IsNew (comes f answer w m completion) i
  delivered w None completion other h = h
  delivered w (Some m) completion other h = to_party w m.to m.from m.body completion (λ to. other m refl to) h

  steps_elsewhere : (w : World C A) (event : Event C) (completion : Completion) → (IsAt w event i → ⊥) → IsNew w i → IsNew (steps f answer w event completion) i
  steps_elsewhere w (Submit c command) completion other h = h
  steps_elsewhere w (Retry c) completion other h = h
  steps_elsewhere w (ClientRestart c) completion other h = h
  steps_elsewhere w (Deliver n) completion other h =
      delivered w (slice_get w.sent n) completion (λ x sent to. other (record { is = x; sent_is = sent; to_it = to })) h
  steps_elsewhere w (Timeout j) completion other h = if_it_is_up w j (on_timeout f j answer (w.replicas j)) completion other h
  steps_elsewhere w (Resend j) completion other h = if_it_is_up w j (on_resend f j answer (w.replicas j)) completion other h
  steps_elsewhere w (Crash j) completion other h = (put_other w.replicas j (down (w.replicas j)) i other ∙ h.0, put_other w.stores j (w.stores j) i other ∙ h.1)
  steps_elsewhere w (Restart j x) completion other h =
      elsewhere (record w { used = put w.used j (put (w.used j) x true) }) j (on_restart f j answer (record (w.replicas j) { stored_view = w.stores j }) x) completion other h
  steps_elsewhere w (StoreFail j keeps_new) completion other h = h

  pub stays_new : (w : World C A) (event : Event C) (completion : Completion) → (IsAt w event i → ⊥) → IsNew w i → IsNew (happens f answer w event completion) i
  stays_new w event completion other h = go (refusal f w event)
    where
      go : (r : Option Reason) → IsNew (if_none r (steps f answer w event completion) w) i
      go None = steps_elsewhere w event completion other h
      go (Some reason) = h

  -- to make a new replica anew changes nothing
  pub same_made : (w : World C A) → IsNew w i → with_new w i ≡ w
  same_made w h = λ k. record w { replicas = λ j. replica j k; stores = λ j. store j k }
    where
      replica : (j : ℕ) → put w.replicas i first_replica j ≡ w.replicas j
      replica j = put_cases w.replicas i first_replica j (λ r. r ≡ w.replicas j) (λ is. sym (ap w.replicas is ∙ h.0)) (λ other. refl)

      store : (j : ℕ) → put w.stores i 0 j ≡ w.stores j
      store j = put_cases w.stores i 0 j (λ v. v ≡ w.stores j) (λ is. sym (ap w.stores is ∙ h.1)) (λ other. refl)

-- ---- along acts

-- whoever has begun an epoch never begins it again
abbrev pub NeverAgain : Type 0
NeverAgain = (f i : ℕ) (stores : ℕ → Kept) (early late : List Move) (epoch : Epoch) (becomes : ColdStart) → AreMoves f (at_rest stores) (early ++ (late ++ Takes i StoreHas (taken.Starts epoch) becomes ∷ []))
    → BeganBefore epoch ((after_moves f (at_rest stores) early).at i) → ⊥

module _ {C A : Type 0} (f : ℕ) (answer : List C → A) (e : Epoch) (stores : ℕ → Kept) where
  abbrev run_of : List (Act C) → World C A
  run_of acts = world f answer (events_in e acts)

  moved : (before : List (Act C)) (m : Move) → run_of (before ++ Moves m ∷ []) ≡ run_of before
  moved before m = ap (λ es. world f answer es) (events_append e before (Moves m ∷ []) ∙ append-nil (events_in e before))

  -- an act of the epoch, or of another one
  happened : (before : List (Act C)) (own : Epoch) (event : Event C) (completion : Completion)
      → run_of (before ++ Happens own event completion ∷ []) ≡ cond (is_same own e) (happens f answer (run_of before) event completion) (run_of before)
  happened before own event completion = ap (λ es. world f answer es) (events_append e before (Happens own event completion ∷ [])) ∙ go (is_same own e)
    where
      go : (b : Bool) → world f answer (events_in e before ++ cond b ((event, completion) ∷ []) []) ≡ cond b (happens f answer (run_of before) event completion) (run_of before)
      go true = run_append f answer (events_in e before) ((event, completion) ∷ []) start
      go false = ap (λ es. world f answer es) (append-nil (events_in e before))

  module _ (law : NeverAgain) (all : List (Act C)) (right : AreOfProcesses f answer e stores all) (i : ℕ) (b : ColdStart) (late : List (Act C)) where
    abbrev begins : Act C
    begins = Moves (Takes i StoreHas (taken.Starts e) b)

    -- before a machine begins the epoch nothing happens to its replica
    not_yet : (before between : List (Act C)) (event : Event C) (completion : Completion) → all ≡ before ++ Happens e event completion ∷ (between ++ begins ∷ late) → IsAt (run_of before) event i → ⊥
    not_yet before between event completion is at =
        let act : Act C = Happens e event completion in
        let whole : all ≡ (before ++ act ∷ between) ++ begins ∷ late = is ∙ sym (append_assoc before (act ∷ between) (begins ∷ late)) in
        let begun = right.behind before (between ++ begins ∷ late) event completion i is (record { early = before ++ act ∷ between; becomes = b; late = late; is = whole }) at in
        let moves : moves_in all ≡ (moves_in before ++ (moves_in between ++ Takes i StoreHas (taken.Starts e) b ∷ [])) ++ moves_in late =
        ap moves_in is ∙ (moves_append before (act ∷ (between ++ begins ∷ late))
        ∙ (ap (λ ms. moves_in before ++ ms) (moves_append between (begins ∷ late) ∙ sym (append_assoc (moves_in between) (Takes i StoreHas (taken.Starts e) b ∷ []) (moves_in late)))
        ∙ sym (append_assoc (moves_in before) (moves_in between ++ Takes i StoreHas (taken.Starts e) b ∷ []) (moves_in late)))) in
        let may = split f (moves_in before ++ (moves_in between ++ Takes i StoreHas (taken.Starts e) b ∷ [])) (moves_in late) (at_rest stores) (subst (AreMoves f (at_rest stores)) moves right.moves) in
        law f i stores (moves_in before) (moves_in between) e b may.0 begun

    one_act : (before between : List (Act C)) (act : Act C) → all ≡ before ++ act ∷ (between ++ begins ∷ late) → IsNew (run_of before) i → IsNew (run_of (before ++ act ∷ [])) i
    one_act before between (Moves m) is h = subst (λ (w : World C A). IsNew w i) (sym (moved before m)) h
    one_act before between (Happens own event completion) is h =
        subst (λ (w : World C A). IsNew w i) (sym (happened before own event completion)) (go (is_same own e) refl)
      where
        go : (t : Bool) → is_same own e ≡ t → IsNew (cond t (happens f answer (run_of before) event completion) (run_of before)) i
        go true same =
            let there : all ≡ before ++ Happens e event completion ∷ (between ++ begins ∷ late) = is ∙ ap (λ x. before ++ Happens x event completion ∷ (between ++ begins ∷ late)) (same_epoch own e same) in
            stays_new f answer i (run_of before) event completion (not_yet before between event completion there) h
        go false same = h

    new_up_to : (before between : List (Act C)) → all ≡ before ++ (between ++ begins ∷ late) → IsNew (run_of before) i → IsNew (run_of (before ++ between)) i
    new_up_to before [] is h = subst (λ acts. IsNew (run_of acts) i) (sym (append-nil before)) h
    new_up_to before (act ∷ acts) is h =
        let more = new_up_to (before ++ act ∷ []) acts (is ∙ sym (append_assoc before (act ∷ []) (acts ++ begins ∷ late))) (one_act before acts act is h) in
        subst (λ xs. IsNew (run_of xs) i) (append_assoc before (act ∷ []) acts) more

  -- who begins the epoch finds its replica new
  pub finds_new : NeverAgain → (early late : List (Act C)) (i : ℕ) (b : ColdStart) → AreOfProcesses f answer e stores (early ++ Moves (Takes i StoreHas (taken.Starts e) b) ∷ late) → IsNew (run_of early) i
  finds_new law early late i b right = new_up_to law (early ++ Moves (Takes i StoreHas (taken.Starts e) b) ∷ late) right i b late [] early refl (refl, refl)

  module _ (law : NeverAgain) where
    by_step : (before late : List (Act C)) (i : ℕ) (step : Step) (b : ColdStart) → AreOfProcesses f answer e stores (before ++ Moves (Takes i StoreHas step b) ∷ late) → made_by_step f answer e (run_of before) i step ≡ run_of before
    by_step before late i (taken.Starts own) b right = go (is_same own e) refl
      where
        go : (t : Bool) → is_same own e ≡ t → cond t (with_new (run_of before) i) (run_of before) ≡ run_of before
        go true same =
            let at = subst (λ x. AreOfProcesses f answer e stores (before ++ Moves (Takes i StoreHas (taken.Starts x) b) ∷ late)) (same_epoch own e same) right in
            same_made f answer i (run_of before) (finds_new law before late i b at)
        go false same = refl
    by_step before late i _ b right = refl

    by_telling : (before late : List (Act C)) (i : ℕ) (telling : Telling) (step : Step) (b : ColdStart) → AreOfProcesses f answer e stores (before ++ Moves (Takes i telling step b) ∷ late)
        → made_by_telling f answer e (run_of before) i telling step ≡ run_of before
    by_telling before late i StoreHas step b right = by_step before late i step b right
    by_telling before late i _ step b right = refl

    by_move : (before late : List (Act C)) (m : Move) → AreOfProcesses f answer e stores (before ++ Moves m ∷ late) → made_by_move f answer e (run_of before) m ≡ run_of before
    by_move before late (Takes i telling step b) right = by_telling before late i telling step b right
    by_move before late _ right = refl

    by_act : (before late : List (Act C)) (act : Act C) → AreOfProcesses f answer e stores (before ++ act ∷ late) → made_by_act f answer e (run_of before) act ≡ run_of (before ++ act ∷ [])
    by_act before late (Moves m) right = by_move before late m right ∙ sym (moved before m)
    by_act before late (Happens own event completion) right = sym (happened before own event completion)

    goes_on : (before acts : List (Act C)) → AreOfProcesses f answer e stores (before ++ acts) → made_by f answer e (run_of before) acts ≡ run_of (before ++ acts)
    goes_on before [] right = ap run_of (sym (append-nil before))
    goes_on before (act ∷ acts) right =
        let assoc = append_assoc before (act ∷ []) acts in
        ap (λ w. made_by f answer e w acts) (by_act before acts act right)
        ∙ (goes_on (before ++ act ∷ []) acts (subst (AreOfProcesses f answer e stores) (sym assoc) right) ∙ ap run_of assoc)

    pub one_run : (acts : List (Act C)) → AreOfProcesses f answer e stores acts → made_by f answer e start acts ≡ run_of acts
    one_run acts right = goes_on [] acts right
