-- One history for every schedule.
use Rattle.std.proofs.Common.{◌≡◌, ℕ, zero, suc, inl, false, ◌==◌, List, [], ◌∷◌, ◌++◌, length, take, arith, refl, sym, ap, ◌∙◌, subst, ◌+◌}
use Rattle.std.proofs.lemmas.Grind.{common_steps}
use Rattle.std.proofs.lemmas.Bool.{eqb-true}
use Rattle.vr_model.specs.Logs.{IsEntry, Request, IsPrefix}
use Rattle.laws_history.proofs.History.{History, IsSound}
use Rattle.vr_model.specs.Messages.{number_of, Body, Reply, Message}
use Rattle.vr_model.specs.Choices.{commands}
use Rattle.laws_history.proofs.Facts.{ReplySays, Says, MessageSays, ReplicaOk, LogOk}
use Rattle.laws_history.proofs.Prefixes.{prefix_take, prefix_refl, take_prefix}
use Rattle.laws_history.proofs.Later.{entry_later, grows_refl}
use Rattle.laws_history.proofs.Committed.{committed_zero}
use Rattle.vr_model.specs.World.{World, Event, Completion, happens, run, first_replica, start}
use Rattle.vr_model.specs.Report.{IsAnswered, BodyStands, ReplyStands}
use Rattle.laws_history.proofs.Rising.{log_nil, log_prefix, entry_before}
use Rattle.laws_history.proofs.Executed.{compare, take_length}
use Rattle.laws_history.proofs.Worlds.{Base, WorldOk, Was}
use Rattle.laws_history.proofs.Events.{happens_ok}

-- all moments of this run are among those
abbrev pub Covers : {C A : Type 0} → ℕ → (List C → A) → (ℕ → ℕ → Type 0) → List (Event C × Completion) → World C A → Type 0
Covers f answer was es w = (d : ℕ) → Was was (run f answer (take d es) w)

-- where nothing is asked of the moments
abbrev pub Always : ℕ → ℕ → Type 0
Always j v = Unit {0}

pub run_ok : {C A : Type 0} (f : ℕ) (answer : List C → A) {base : Base C} {was : ℕ → ℕ → Type 0} (w : World C A) (es : List (Event C × Completion))
    → WorldOk f answer base was w → Covers f answer was es w → WorldOk f answer base was (run f answer es w)
run_ok f answer {base} {was} w [] k covers = k
run_ok f answer {base} {was} w (e ∷ es) k covers = run_ok f answer (happens f answer w e.0 e.1) es (happens_ok f answer w e.0 e.1 k (covers zero)) (λ d. covers (suc d))

-- before the first event
abbrev pub first_history : {X : Type 0} → History X
first_history = record {
  asked = [];
  done = 0;
  used = λ r x. false;
  held = λ r x v. 0;
  log = λ v. [];
  first = λ v. 0;
  started = λ v. v == 0;
  accepted = λ r v. 0;
  promised = λ r. 0;
  left = λ r. 0;
}

first_sound : {X : Type 0} (f : ℕ) → IsSound {X = X} f first_history
first_sound f = record {
  first_within = λ v b. omega arith;
  unstarted = λ v b. refl;
  accepted_within = λ r v. omega arith;
  accepted_promised = λ r v l. refl;
  leads = λ v b. refl;
  held_within = λ r x v e. omega arith;
  left_promised = λ r. omega arith;
  called = λ v b. let e : v ≡ 0 = eqb-true _ _ b in omega arith;
  carried = λ u v n b l could. absurd (let e : u ≡ 0 = eqb-true _ _ b in omega arith);
}

first_ok : {C : Type 0} (f i : ℕ) → ReplicaOk {C = C} f first_history i first_replica
first_ok {C} f i = record {
  up = refl;
  normal = λ e. record {
    stands = record { log = record { started = refl; within = prefix_refl []; whole = omega arith }; accepted = refl; commit = committed_zero f first_history 0; executed = omega arith };
    last = refl;
    promised = refl;
    stored = refl;
    leads = λ l. refl;
    acknowledged = λ l s. omega arith;
  };
  view_change = λ e. absurd cc;
  recovering = λ e. absurd cc;
}

abbrev pub first_base : {C : Type 0} → Base C
first_base = record { order = []; history = first_history }

pub start_ok : {C A : Type 0} (f : ℕ) (answer : List C → A) {was : ℕ → ℕ → Type 0} → WorldOk f answer first_base was (start {C = C} {A = A})
start_ok {C} {A} f answer = record {
  since = prefix_refl [];
  history = first_history;
  later = grows_refl first_history;
  left = λ j v l. absurd (omega arith);
  started = λ u b. inl (eqb-true _ _ b);
  sound = first_sound f;
  rising = λ v. log_nil [];
  asked = refl;
  waits = λ c m e. absurd cc;
  done = omega arith;
  replicas = λ i up. first_ok f i;
  cached = λ i up. omega arith;
  stores = λ i. omega arith;
  sent = tt;
  used = λ i x e. absurd cc;
  order = record { view = 0; count = 0; commit = committed_zero f first_history 0; is = refl };
  executed = λ i. prefix_refl [];
}

pub run_append : {C A : Type 0} (f : ℕ) (answer : List C → A) (early late : List (Event C × Completion)) (w : World C A) → run f answer (early ++ late) w ≡ run f answer late (run f answer early w)
run_append f answer [] late w = refl
run_append f answer (e ∷ es) late w = run_append f answer es late (happens f answer w e.0 e.1)

-- this world as a base
abbrev pub base_of : {C A : Type 0} {f : ℕ} {answer : List C → A} {base : Base C} {was : ℕ → ℕ → Type 0} {w : World C A} → WorldOk f answer base was w → Base C
base_of {C} {A} {f} {answer} {base} {was} {w} k = record { order = w.order; history = k.history }

pub from_here : {C A : Type 0} (f : ℕ) (answer : List C → A) {base : Base C} {was : ℕ → ℕ → Type 0} (w : World C A) → (k : WorldOk f answer base was w) → WorldOk f answer (base_of k) was w
from_here f answer w k = record {
  since = prefix_refl w.order;
  history = k.history;
  later = grows_refl k.history;
  left = k.left;
  started = k.started;
  sound = k.sound;
  rising = k.rising;
  asked = k.asked;
  waits = k.waits;
  done = k.done;
  replicas = k.replicas;
  cached = k.cached;
  stores = k.stores;
  used = k.used;
  order = k.order;
  executed = k.executed;
  sent = k.sent;
}

pub order_rises : {C A : Type 0} {f : ℕ} {answer : List C → A} {base : Base C} {was : ℕ → ℕ → Type 0} {w : World C A} → (k : WorldOk f answer base was w) → LogOk k.history.asked w.order
order_rises k = subst (LogOk k.history.asked) (sym k.order.is) (log_prefix (take_prefix k.order.count (k.history.log k.order.view)) (k.rising k.order.view))

-- a reply that was sent is the answer at its place in the committed list
answered_by : {C A : Type 0} (f : ℕ) (answer : List C → A) {base : Base C} {was : ℕ → ℕ → Type 0} {w : World C A} (k : WorldOk f answer base was w) (c number : ℕ) (a : A)
    → ReplySays f answer k.history c number a → IsAnswered answer w.order c number a
answered_by {C} {A} f answer {base} {was} {w} k c number a says =
    let o = k.order in
    let h = k.history in
    let long : length w.order ≡ o.count = ap length o.is ∙ take_length o.count (h.log o.view) o.commit.within in
    let front : List (Request C) = take (says.place + 1) (h.log says.view) in
    let begins : IsPrefix front w.order = subst (IsPrefix front) (sym o.is)
    (compare f h says.view (says.place + 1) o.view o.count k.sound says.commit o.commit (omega (arith, says.done, k.done))) in
    let size : length front ≡ says.place + 1 = take_length (says.place + 1) (h.log says.view) says.commit.within in
    let entry : IsEntry front says.place says.request = entry_before (take_prefix (says.place + 1) (h.log says.view)) (omega arith) says.entry in
    let same : take (says.place + 1) w.order ≡ front = prefix_take (says.place + 1) begins (omega arith) ∙ whole front (says.place + 1) size in
    record {
      place = says.place;
      request = says.request;
      entry = entry_later begins entry;
      client_is = says.client_is;
      number_is = says.number_is;
      answer_is = says.answer_is ∙ ap (λ x. answer (commands x)) (sym same);
    }
  where
    whole : {X : Type 0} (xs : List X) (n : ℕ) → length xs ≡ n → take n xs ≡ xs
    whole xs n e = grind (arith, common_steps)

pub answered : {C A : Type 0} (f : ℕ) (answer : List C → A) {base : Base C} {was : ℕ → ℕ → Type 0} {w : World C A} (k : WorldOk f answer base was w) (m : Message C A) → MessageSays f answer k.history m → ReplyStands answer w.order m
answered {C} {A} f answer {base} {was} {w} k m says = go m.body says
  where
    go : (b : Body C A) → Says f answer k.history (number_of m.from) (number_of m.to) b → BodyStands answer w.order (number_of m.to) b
    go (Reply v n a) s = answered_by f answer k (number_of m.to) n a s
    go _ s = tt
