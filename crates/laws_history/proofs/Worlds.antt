-- What holds of the world, and that a step of a replica keeps it.
use Rattle.std.proofs.Common.{◌≡◌, ℕ, ◌<◌, ◌≤◌, ◌⊎◌, Bool, true, false, cond, ltb, List, [], length, Option, Some, None, arith, refl, sym, ap, ◌∙◌, subst, inl, inr}
use Rattle.std.proofs.lemmas.Bool.{ltb-true, cases_eq}
use Rattle.vr_model.specs.Logs.{Request, IsPrefix, IsAmong}
use Rattle.laws_history.proofs.History.{History, IsSound, Grows}
use Rattle.vr_model.specs.Replicas.{is_down, ReplicaState, Outcome, put}
use Rattle.laws_history.proofs.Facts.{AllSay, ReplicaOk, Fits, saved, StoreOk, LogOk}
use Rattle.laws_history.proofs.Prefixes.{prefix_length, prefix_trans}
use Rattle.laws_history.proofs.Later.{replica_later, all_say_later}
use Rattle.laws_history.proofs.Tables.{put_same, put_other, put_cases}
use Rattle.laws_history.proofs.NormalCase.{all_say_append}
use Rattle.vr_model.specs.World.{World, Completion, Done, Lost, saved_view, executed, longer, down, Ending, Went, SaveFailed, ending_of, becomes, goes, does}
use Rattle.laws_history.proofs.Prefixes.{prefix_nil}
use Rattle.vr_model.specs.Views.{IsStarted, SentDoViewChange, IsNormalAbove}
use Rattle.laws_history.proofs.Entering.{grows_trans}
use Rattle.laws_history.proofs.Sent.{left_front, left_back, started_front, started_back}
use Rattle.laws_history.proofs.Executed.{IsDone, done_later, executed_done, executed_length, longer_ok, promised_stored}

-- what there was at an earlier moment
pub record Base (C : Type 0) : Type 0 where
  pub order : List (Request C)
  pub history : History (Request C)

-- what holds of the world after every event: also, the committed list and the history go on from the base; and who was normal in which view
pub record WorldOk {C A : Type 0} (f : ℕ) (answer : List C → A) (base : Base C) (was : ℕ → ℕ → Type 0) (w : World C A) : Type 0 where
  pub since : IsPrefix base.order w.order
  pub history : History (Request C)
  pub later : Grows base.history history
  pub left : (j v : ℕ) → v < history.left j → SentDoViewChange w.sent j v ⊎ (was j v ⊎ IsNormalAbove (w.replicas j) v)
  pub started : (u : ℕ) → history.started u ≡ true → (u ≡ 0) ⊎ (0 < f → IsStarted w.sent u)
  pub sound : IsSound f history
  pub rising : (v : ℕ) → LogOk history.asked (history.log v)
  pub asked : history.asked ≡ w.submitted
  pub waits : (c : ℕ) (m : Request C) → (w.clients c).waits ≡ Some m → IsAmong history.asked m
  pub replicas : (i : ℕ) → is_down (w.replicas i).status ≡ false → ReplicaOk f history i (w.replicas i)
  pub cached : (i : ℕ) → is_down (w.replicas i).status ≡ false → (w.replicas i).stored_view ≤ w.stores i
  pub stores : (i : ℕ) → history.promised i ≤ w.stores i
  pub sent : AllSay f answer history w.sent
  pub used : (i x : ℕ) → history.used i x ≡ true → w.used i x ≡ true
  pub done : history.done ≤ length w.order
  pub order : IsDone f history w.order
  pub executed : (i : ℕ) → IsPrefix (executed (w.replicas i)) w.order

-- the moment of this world is one of those
abbrev pub Was : {C A : Type 0} → (ℕ → ℕ → Type 0) → World C A → Type 0
Was was w = (j v : ℕ) → IsNormalAbove (w.replicas j) v → was j v

-- a replica takes a step that fits
pub becomes_ok : {C A : Type 0} (f i : ℕ) (answer : List C → A) {base : Base C} {was : ℕ → ℕ → Type 0} (w : World C A) (used : ℕ → ℕ → Bool) (st : ℕ) (o : Outcome C A)
    → (k : WorldOk f answer base was w) → Was was w → (fits : Fits f answer k.history i st o) → st ≤ w.stores i
    → ((j y : ℕ) → fits.later.used j y ≡ true → used j y ≡ true)
    → WorldOk f answer base was (becomes f answer (record w { used = used }) i o.replica (saved_view (w.stores i) o.saves) o.sends)
becomes_ok {C} {A} f i answer {base} {was} w used st o k here fits low nonces =
    let g : History (Request C) = fits.later in
    let old : IsDone f g w.order = done_later f k.history g w.order k.sound fits.grows k.order in
    let new : IsDone f g (executed o.replica) = executed_done f g i o.replica fits.replica in
    let both = longer_ok f g w.order (executed o.replica) fits.sound old new in
    let store : o.replica.stored_view ≤ saved_view (w.stores i) o.saves = kept o.saves fits.store.is in
    record {
      since = prefix_trans k.since both.1;
      history = g;
      later = grows_trans k.later fits.grows;
      left = λ j v l. elim (fits.left j v l) [
        | inl early ↦ elim (k.left j v early) [
          | inl sent ↦ inl (left_front w.sent o.sends j v sent)
          | inr p ↦ elim p [ inl past ↦ inr (inl past) | inr now ↦ inr (inl (here j v now)) ]
        ]
        | inr p ↦ elim p.1 [
          | inl sent ↦ inl (left_back w.sent o.sends j v (subst (λ n. SentDoViewChange o.sends n v) (sym p.0) sent))
          | inr now ↦ inr (inr (subst (λ (r : ReplicaState C). IsNormalAbove r v) (sym (put_same w.replicas i o.replica j p.0)) now))
        ]
      ];
      started = λ u s. elim (fits.starts u s) [
        | inl early ↦ elim (k.started u early) [
          | inl first ↦ inl first
          | inr sent ↦ inr (λ l. started_front w.sent o.sends u (sent l))
        ]
        | inr sent ↦ inr (λ l. started_back w.sent o.sends u (sent l))
      ];
      sound = fits.sound;
      rising = fits.rises k.rising;
      asked = fits.asked ∙ k.asked;
      waits = λ c m e. subst (λ x. IsAmong x m) (sym fits.asked) (k.waits c m e);
      done = omega (arith, fits.done, k.done, prefix_length both.1, prefix_length both.2, executed_length f g i o.replica fits.replica);
      replicas = λ j up. put_cases w.replicas i o.replica j (λ r. is_down r.status ≡ false → ReplicaOk f g j r)
          (λ e u. subst (λ n. ReplicaOk f g n o.replica) (sym e) fits.replica)
          (λ ne u. replica_later f k.history g j (w.replicas j) k.sound fits.grows (fits.apart j ne) (k.replicas j u)) up;
      cached = λ j up. elim (cases_eq j i) [
        | inl e ↦ let a : (put w.replicas i o.replica j).stored_view ≡ o.replica.stored_view = ap (λ r. r.stored_view) (put_same w.replicas i o.replica j e) in
            omega (arith, put_same w.stores i (saved_view (w.stores i) o.saves) j e)
        | inr ne ↦ let a : (put w.replicas i o.replica j).stored_view ≡ (w.replicas j).stored_view = ap (λ r. r.stored_view) (put_other w.replicas i o.replica j ne) in
            let u : is_down (w.replicas j).status ≡ false = ap (λ r. is_down r.status) (sym (put_other w.replicas i o.replica j ne)) ∙ up in
            omega (arith, put_other w.stores i (saved_view (w.stores i) o.saves) j ne, k.cached j u)
      ];
      stores = λ j. elim (cases_eq j i) [
        | inl e ↦ let a : g.promised j ≡ g.promised i = ap g.promised e in
            omega (arith, put_same w.stores i (saved_view (w.stores i) o.saves) j e, promised_stored f g i o.replica fits.replica)
        | inr ne ↦ omega (arith, put_other w.stores i (saved_view (w.stores i) o.saves) j ne, k.stores j, (fits.apart j ne).promised)
      ];
      sent = all_say_append f answer g w.sent o.sends (all_say_later f answer k.history g w.sent k.sound fits.grows k.sent) fits.sends;
      used = nonces;
      order = both.0;
      executed = λ j. put_cases w.replicas i o.replica j (λ r. IsPrefix (executed r) (longer w.order (executed o.replica)))
          (λ e. both.2)
          (λ ne. prefix_trans (k.executed j) both.1);
    }
  where
    kept : (s : Option ℕ) → o.replica.stored_view ≡ saved st s → o.replica.stored_view ≤ saved_view (w.stores i) s
    kept None e = omega (arith, e)
    kept (Some u) e = omega (arith, e)

-- the history stays: the replica is as it was, or down, and its store keeps no less than was promised
pub stays_ok : {C A : Type 0} (f i : ℕ) (answer : List C → A) {base : Base C} {was : ℕ → ℕ → Type 0} (w : World C A) (used : ℕ → ℕ → Bool) (failing : ℕ → Option Bool) (r : ReplicaState C) (store : ℕ)
    → (k : WorldOk f answer base was w) → Was was w → (is_down r.status ≡ false → ReplicaOk f k.history i r × (r.stored_view ≤ store)) → k.history.promised i ≤ store
    → IsPrefix (executed r) w.order
    → ((j y : ℕ) → w.used j y ≡ true → used j y ≡ true)
    → WorldOk f answer base was (record (becomes f answer (record w { used = used }) i r store []) { failing = failing })
stays_ok {C} {A} f i answer {base} {was} w used failing r store k here ok low prefix nonces =
    let same : longer w.order (executed r) ≡ w.order = shorter w.order (executed r) prefix in
    record {
      since = subst (IsPrefix base.order) (sym same) k.since;
      history = k.history;
      later = k.later;
      left = λ j v l. elim (k.left j v l) [
        | inl sent ↦ inl (left_front w.sent [] j v sent)
        | inr p ↦ elim p [ inl past ↦ inr (inl past) | inr now ↦ inr (inl (here j v now)) ]
      ];
      started = λ u s. elim (k.started u s) [ inl first ↦ inl first | inr sent ↦ inr (λ l. started_front w.sent [] u (sent l)) ];
      sound = k.sound;
      rising = k.rising;
      asked = k.asked;
      waits = k.waits;
      done = omega (arith, k.done, ap length same);
      replicas = λ j up. put_cases w.replicas i r j (λ r. is_down r.status ≡ false → ReplicaOk f k.history j r)
          (λ e u. subst (λ n. ReplicaOk f k.history n r) (sym e) (ok u).0)
          (λ ne u. k.replicas j u) up;
      cached = λ j up. elim (cases_eq j i) [
        | inl e ↦ let a : put w.replicas i r j ≡ r = put_same w.replicas i r j e in
            let b : (put w.replicas i r j).stored_view ≡ r.stored_view = ap (λ r. r.stored_view) a in
            let u : is_down r.status ≡ false = ap (λ r. is_down r.status) (sym a) ∙ up in
            omega (arith, put_same w.stores i store j e, (ok u).1)
        | inr ne ↦ let a : (put w.replicas i r j).stored_view ≡ (w.replicas j).stored_view = ap (λ r. r.stored_view) (put_other w.replicas i r j ne) in
            let u : is_down (w.replicas j).status ≡ false = ap (λ r. is_down r.status) (sym (put_other w.replicas i r j ne)) ∙ up in
            omega (arith, put_other w.stores i store j ne, k.cached j u)
      ];
      stores = λ j. elim (cases_eq j i) [
        | inl e ↦ let a : k.history.promised j ≡ k.history.promised i = ap k.history.promised e in omega (arith, put_same w.stores i store j e)
        | inr ne ↦ omega (arith, put_other w.stores i store j ne, k.stores j)
      ];
      sent = all_say_append f answer k.history w.sent [] k.sent tt;
      used = λ j y e. nonces j y (k.used j y e);
      order = subst (IsDone f k.history) (sym same) k.order;
      executed = λ j. subst (IsPrefix (executed (put w.replicas i r j))) (sym same) (put_cases w.replicas i r j (λ r. IsPrefix (executed r) w.order) (λ e. prefix) (λ ne. k.executed j));
    }
  where
    shorter : {X : Type 0} (xs ys : List X) → IsPrefix ys xs → longer xs ys ≡ xs
    shorter xs ys p = go (ltb (length xs) (length ys)) refl
      where
        go : (b : Bool) → ltb (length xs) (length ys) ≡ b → cond b ys xs ≡ xs
        go true e = absurd (let l : length xs < length ys = ltb-true _ _ e in omega (arith, prefix_length p))
        go false e = refl

-- what the store keeps is no less than what the replica knows of it
stored_kept : {C A : Type 0} (st store : ℕ) (o : Outcome C A) → StoreOk st o → st ≤ store → (o.replica.stored_view ≤ saved_view store o.saves) × (st ≤ saved_view store o.saves)
stored_kept st store o ok low = go o.saves ok.is ok.rises
  where
    go : (s : Option ℕ) → o.replica.stored_view ≡ saved st s → st ≤ saved st s → (o.replica.stored_view ≤ saved_view store s) × (st ≤ saved_view store s)
    go None e r = (omega arith, omega arith)
    go (Some u) e r = (omega arith, omega arith)

-- whatever befalls the step
pub does_ok : {C A : Type 0} (f i : ℕ) (answer : List C → A) {base : Base C} {was : ℕ → ℕ → Type 0} (w : World C A) (used : ℕ → ℕ → Bool) (st : ℕ) (o : Outcome C A) (completion : Completion)
    → (k : WorldOk f answer base was w) → Was was w → (fits : Fits f answer k.history i st o) → st ≤ w.stores i
    → (is_down (w.replicas i).status ≡ false → (w.replicas i).stored_view ≡ st)
    → ((j y : ℕ) → fits.later.used j y ≡ true → used j y ≡ true) → ((j y : ℕ) → w.used j y ≡ true → used j y ≡ true)
    → WorldOk f answer base was (does f answer (record w { used = used }) i o completion)
does_ok {C} {A} f i answer {base} {was} w used st o completion k here fits low is nonces more = go (ending_of completion o.saves (w.failing i))
  where
    v : World C A
    v = record w { used = used }

    promised : k.history.promised i ≤ saved_view (w.stores i) o.saves
    promised = omega (arith, fits.grows.promised i, promised_stored f fits.later i o.replica fits.replica, (stored_kept st (w.stores i) o fits.store low).0)

    done : WorldOk f answer base was (becomes f answer v i o.replica (saved_view (w.stores i) o.saves) o.sends)
    done = becomes_ok f i answer w used st o k here fits low nonces

    lost : (s : Bool) → WorldOk f answer base was (becomes f answer v i (w.replicas i) (cond s (saved_view (w.stores i) o.saves) (w.stores i)) [])
    lost true = stays_ok f i answer w used w.failing (w.replicas i) (saved_view (w.stores i) o.saves) k here
        (λ up. (k.replicas i up, omega (arith, is up, (stored_kept st (w.stores i) o fits.store low).1))) promised (k.executed i) more
    lost false = stays_ok f i answer w used w.failing (w.replicas i) (w.stores i) k here (λ up. (k.replicas i up, k.cached i up)) (k.stores i) (k.executed i) more

    failed : (b : Bool) → WorldOk f answer base was (goes f answer v i o (SaveFailed b))
    failed true = stays_ok f i answer w used (put w.failing i None) (down (w.replicas i)) (saved_view (w.stores i) o.saves) k here (λ up. absurd cc) promised (prefix_nil w.order) more
    failed false = stays_ok f i answer w used (put w.failing i None) (down (w.replicas i)) (w.stores i) k here (λ up. absurd cc) (k.stores i) (prefix_nil w.order) more

    go : (ending : Ending) → WorldOk f answer base was (goes f answer v i o ending)
    go (Went Done) = done
    go (Went (Lost s)) = lost s
    go (SaveFailed b) = failed b
