-- Every event keeps what holds of the world.
use Rattle.std.proofs.Common.{◌≡◌, ℕ, zero, suc, Bool, true, false, cond, not, ◌==◌, ltb, ◌&&◌, ◌||◌, List, [], ◌∷◌, ◌++◌, length, Option, Some, None, arith, refl, sym, ap, ◌∙◌, subst, inl, inr}
use Rattle.std.specs.Prelude.{slice_get}
use Rattle.std.proofs.lemmas.Option.{same_Some}
use Rattle.std.proofs.lemmas.Bool.{cases_eq, and_parts, not-true, eqb-false}
use Rattle.vr_model.specs.Logs.{Request, IsAmong}
use Rattle.vr_model.specs.Groups.{group_size, client_count}
use Rattle.laws_history.proofs.History.{History, IsSound, Grows}
use Rattle.vr_model.specs.Messages.{number_of, Party, Replica, Client, Body, RequestMessage, Prepare, PrepareOk, Commit, Reply, StartViewChange, DoViewChangeMessage, StartView, Recovery, RecoveryResponseMessage, GetState, NewState, Message}
use Rattle.vr_model.specs.Replicas.{is_down, ReplicaState, Outcome, put}
use Rattle.vr_model.specs.Rules.{on_restart}
use Rattle.laws_history.proofs.Facts.{Says, MessageSays, AllSay, ReplicaOk, Good, Fits}
use Rattle.laws_history.proofs.Later.{replica_later, all_say_later, among_later}
use Rattle.laws_history.proofs.Tables.{put_same, put_cases, put_at, put_at_other}
use Rattle.laws_history.proofs.Notes.{submit, submit_grows, submit_sound, submit_apart}
use Rattle.laws_history.proofs.NormalCase.{all_say_append, good_if, good_sends}
use Rattle.vr_model.specs.Rules.{receives, from_replica, from_client}
use Rattle.laws_history.proofs.Reasons.{restart_fits}
use Rattle.vr_model.specs.World.{Reason, next_request, ClientState, World, Event, Submit, Retry, ClientRestart, Deliver, Timeout, Resend, Crash, Restart, StoreFail, Completion, down, does, if_up, comes_to_client, comes_to, comes, retried, submits, restarts, refusal, if_none, steps, happens}
use Rattle.laws_history.proofs.Rising.{log_more}
use Rattle.laws_history.proofs.Prefixes.{prefix_nil}
use Rattle.laws_history.proofs.NormalCase.{good_on_request}
use Rattle.laws_history.proofs.Backups.{good_on_prepare, good_on_prepare_ok, good_on_commit}
use Rattle.laws_history.proofs.Entering.{good_on_timeout, good_on_resend}
use Rattle.laws_history.proofs.Electing.{good_on_start_view_change, good_on_do_view_change}
use Rattle.laws_history.proofs.StateTransfer.{good_on_start_view, good_on_get_state, good_on_new_state}
use Rattle.laws_history.proofs.Recovery.{good_on_recovery, good_on_recovery_response, good_on_restart}
use Rattle.laws_history.proofs.Executed.{done_later}
use Rattle.laws_history.proofs.Worlds.{Base, WorldOk, Was, does_ok, stays_ok}
use Rattle.laws_history.proofs.Entering.{grows_trans}
use Rattle.laws_history.proofs.Sent.{left_front, started_front}

-- a rule of a replica that is up
abbrev pub good_fits : {C A : Type 0} (f i : ℕ) (answer : List C → A) (h : History (Request C)) (st k : ℕ) (o : Outcome C A) → Good f answer h i st k o → Fits f answer h i st o
good_fits f i answer h st k o good = record { done = good.done; store = good.store; later = good.later; sound = good.sound; grows = good.grows; apart = good.apart; replica = good.replica; rises = good.rises; asked = good.asked; left = good.left; starts = good.starts; sends = good.sends }

-- what comes from another replica
good_from_replica : {C A : Type 0} (f i : ℕ) (answer : List C → A) (h : History (Request C)) (r : ReplicaState C) (s : ℕ) (body : Body C A)
    → IsSound f h → ReplicaOk f h i r → (s ≡ i → ⊥) → Says f answer h s i body → Good f answer h i r.stored_view r.commit_number (from_replica f i answer r s body)
good_from_replica f i answer h r s (RequestMessage m) sound ok ne says = good_sends f i answer h r [] sound ok tt
good_from_replica f i answer h r s (Prepare u m p c) sound ok ne says = good_on_prepare f i answer h r u m p c sound ok says
good_from_replica f i answer h r s (PrepareOk u p) sound ok ne says = good_on_prepare_ok f i answer h r s u p sound ok says
good_from_replica f i answer h r s (Commit u c) sound ok ne says = good_on_commit f i answer h r u c sound ok says
good_from_replica f i answer h r s (Reply u n a) sound ok ne says = good_sends f i answer h r [] sound ok tt
good_from_replica f i answer h r s (StartViewChange u) sound ok ne says = good_on_start_view_change f i answer h r s u sound ok
good_from_replica f i answer h r s (DoViewChangeMessage u a) sound ok ne says = good_on_do_view_change f i answer h r s u a sound ok says
good_from_replica f i answer h r s (StartView u c log) sound ok ne says = good_on_start_view f i answer h r s u c log sound ok says
good_from_replica f i answer h r s (Recovery x w) sound ok ne says = good_on_recovery f i answer h r s x w sound ok says
good_from_replica f i answer h r s (RecoveryResponseMessage x a) sound ok ne says = good_on_recovery_response f i answer h r s x a sound ok ne says
good_from_replica f i answer h r s (GetState u p) sound ok ne says = good_on_get_state f i answer h r s u p sound ok
good_from_replica f i answer h r s (NewState u p c log) sound ok ne says = good_on_new_state f i answer h r u p c log sound ok says

good_from_client : {C A : Type 0} (f i : ℕ) (answer : List C → A) (h : History (Request C)) (r : ReplicaState C) (s : ℕ) (body : Body C A)
    → IsSound f h → ReplicaOk f h i r → Says f answer h s i body → Good f answer h i r.stored_view r.commit_number (from_client f i answer r body)
good_from_client f i answer h r s (RequestMessage m) sound ok says = good_on_request f i answer h r m sound ok says
good_from_client f i answer h r s _ sound ok says = good_sends f i answer h r [] sound ok tt

pub good_receives : {C A : Type 0} (f i : ℕ) (answer : List C → A) (h : History (Request C)) (r : ReplicaState C) (from : Party) (body : Body C A)
    → IsSound f h → ReplicaOk f h i r → Says f answer h (number_of from) i body → Good f answer h i r.stored_view r.commit_number (receives f i answer r from body)
good_receives f i answer h r (Replica s) body sound ok says =
    good_if f i answer h (ltb s (group_size f) && not (s == i)) _ _
    (λ e. let p = and_parts (ltb s (group_size f)) (not (s == i)) e in good_from_replica f i answer h r s body sound ok (eqb-false _ _ (not-true _ p.1)) says)
    (λ e. good_sends f i answer h r [] sound ok tt)
good_receives f i answer h r (Client c) body sound ok says =
    good_if f i answer h (ltb c client_count) _ _ (λ e. good_from_client f i answer h r c body sound ok says) (λ e. good_sends f i answer h r [] sound ok tt)

-- a replica that is up does this
up_does_ok : {C A : Type 0} (f i : ℕ) (answer : List C → A) {base : Base C} {was : ℕ → ℕ → Type 0} (w : World C A) (o : Outcome C A) (completion : Completion)
    → (k : WorldOk f answer base was w) → Was was w → (ReplicaOk f k.history i (w.replicas i) → Good f answer k.history i (w.replicas i).stored_view (w.replicas i).commit_number o)
    → WorldOk f answer base was (if_up f answer w i (does f answer w i o completion))
up_does_ok {C} {A} f i answer {base} {was} w o completion k here good = go (is_down (w.replicas i).status) refl (not (ltb i (group_size f)))
  where
    go : (b : Bool) → is_down (w.replicas i).status ≡ b → (t : Bool) → WorldOk f answer base was (cond (b || t) w (does f answer w i o completion))
    go true e t = k
    go false e true = k
    go false e false =
        let g = good (k.replicas i e) in
        does_ok f i answer w w.used (w.replicas i).stored_view o completion k here (good_fits f i answer k.history (w.replicas i).stored_view (w.replicas i).commit_number o g) (k.cached i e) (λ up. refl)
        (λ j y u. k.used j y (g.unused j y u)) (λ j y u. u)

pub said : {C A : Type 0} (f : ℕ) (answer : List C → A) (h : History (Request C)) (ms : List (Message C A)) (n : ℕ) (m : Message C A)
    → AllSay f answer h ms → slice_get ms n ≡ Some m → MessageSays f answer h m
said f answer h [] n m all e = absurd cc
said f answer h (x ∷ xs) zero m all e = subst (MessageSays f answer h) (same_Some _ _ e) all.0
said f answer h (x ∷ xs) (suc n) m all e = said f answer h xs n m all.1 e

-- the clients' part of the world
clients_ok : {C A : Type 0} (f : ℕ) (answer : List C → A) {base : Base C} {was : ℕ → ℕ → Type 0} (w : World C A) (clients : ℕ → ClientState C) (ms : List (Message C A)) (failing : ℕ → Option Bool)
    → (k : WorldOk f answer base was w) → ((c : ℕ) (m : Request C) → (clients c).waits ≡ Some m → IsAmong k.history.asked m) → AllSay f answer k.history ms → WorldOk f answer base was (record w { clients = clients; sent = w.sent ++ ms; failing = failing })
clients_ok f answer {base} {was} w clients ms failing k waits says = record {
  since = k.since;
  history = k.history;
  later = k.later;
  left = λ j v l. elim (k.left j v l) [ inl sent ↦ inl (left_front w.sent ms j v sent) | inr p ↦ inr p ];
  started = λ u s. elim (k.started u s) [ inl first ↦ inl first | inr sent ↦ inr (λ l. started_front w.sent ms u (sent l)) ];
  sound = k.sound;
  rising = k.rising;
  asked = k.asked;
  waits = waits;
  done = k.done;
  replicas = k.replicas;
  cached = k.cached;
  stores = k.stores;
  used = k.used;
  order = k.order;
  executed = k.executed;
  sent = all_say_append f answer k.history w.sent ms k.sent says;
}

clients_same : {C A : Type 0} (f : ℕ) (answer : List C → A) {base : Base C} {was : ℕ → ℕ → Type 0} (w : World C A) (clients : ℕ → ClientState C) (failing : ℕ → Option Bool)
    → (k : WorldOk f answer base was w) → ((c : ℕ) (m : Request C) → (clients c).waits ≡ Some m → IsAmong k.history.asked m) → WorldOk f answer base was (record w { clients = clients; failing = failing })
clients_same f answer {base} {was} w clients failing k waits = record {
  since = k.since;
  history = k.history;
  later = k.later;
  left = k.left;
  started = k.started;
  sound = k.sound;
  rising = k.rising;
  asked = k.asked;
  waits = waits;
  done = k.done;
  replicas = k.replicas;
  cached = k.cached;
  stores = k.stores;
  used = k.used;
  order = k.order;
  executed = k.executed;
  sent = k.sent;
}

one_client : {C A : Type 0} (f : ℕ) (answer : List C → A) {base : Base C} {was : ℕ → ℕ → Type 0} {w : World C A} (k : WorldOk f answer base was w) (c : ℕ) (new : ClientState C)
    → ((m : Request C) → new.waits ≡ Some m → IsAmong k.history.asked m) → (d : ℕ) (m : Request C) → (put w.clients c new d).waits ≡ Some m → IsAmong k.history.asked m
one_client f answer {base} {was} {w} k c new says d m = put_cases w.clients c new d (λ x. x.waits ≡ Some m → IsAmong k.history.asked m) (λ e. says m) (λ ne. k.waits d m)

comes_to_client_ok : {C A : Type 0} (f : ℕ) (answer : List C → A) {base : Base C} {was : ℕ → ℕ → Type 0} (w : World C A) (c : ℕ) (body : Body C A) → WorldOk f answer base was w → WorldOk f answer base was (comes_to_client f answer w c body)
comes_to_client_ok {C} {A} f answer {base} {was} w c (Reply v n a) k = clients_same f answer w _ w.failing k (one_client f answer k c _ (still _))
  where
    still : (b : Bool) (m : Request C) → cond b None (w.clients c).waits ≡ Some m → IsAmong k.history.asked m
    still true m e = absurd cc
    still false m e = k.waits c m e
comes_to_client_ok f answer {base} {was} w c _ k = k

comes_ok : {C A : Type 0} (f : ℕ) (answer : List C → A) {base : Base C} {was : ℕ → ℕ → Type 0} (w : World C A) (m : Option (Message C A)) (completion : Completion)
    → (k : WorldOk f answer base was w) → Was was w → ((x : Message C A) → m ≡ Some x → MessageSays f answer k.history x) → WorldOk f answer base was (comes f answer w m completion)
comes_ok f answer {base} {was} w None completion k here says = k
comes_ok {C} {A} f answer {base} {was} w (Some m) completion k here says = go m.to (says m refl)
  where
    go : (to : Party) → Says f answer k.history (number_of m.from) (number_of to) m.body → WorldOk f answer base was (comes_to f answer w to m.from m.body completion)
    go (Replica i) s = up_does_ok f i answer w _ completion k here (λ ok. good_receives f i answer k.history (w.replicas i) m.from m.body k.sound ok s)
    go (Client c) s = comes_to_client_ok f answer w c m.body k

says_retried : {C A : Type 0} (f : ℕ) (answer : List C → A) (h : History (Request C)) (c n : ℕ) (m : Option (Request C))
    → ((x : Request C) → m ≡ Some x → IsAmong h.asked x) → AllSay f answer h (retried f answer c n m)
says_retried f answer h c zero None says = tt
says_retried f answer h c (suc n) None says = tt
says_retried f answer h c zero (Some m) says = tt
says_retried f answer h c (suc n) (Some m) says = all_say_append f answer h (retried f answer c n (Some m)) _ (says_retried f answer h c n (Some m) says) (says m refl, tt)

-- a later history of the same world
with_submitted : {C A : Type 0} (f : ℕ) (answer : List C → A) {base : Base C} {was : ℕ → ℕ → Type 0} (w : World C A) (m : Request C) → WorldOk f answer base was w → WorldOk f answer base was (record w { submitted = w.submitted ++ m ∷ [] })
with_submitted {C} {A} f answer {base} {was} w m k =
    let g : History (Request C) = submit k.history m in
    let grows : Grows k.history g = submit_grows k.history m in
    record {
      since = k.since;
      history = g;
      later = grows_trans k.later grows;
      left = k.left;
      started = k.started;
      sound = submit_sound f k.history m k.sound;
      rising = λ v. log_more grows.asked (k.rising v);
      asked = ap (λ x. x ++ m ∷ []) k.asked;
      waits = λ c x e. among_later grows.asked (k.waits c x e);
      done = k.done;
      replicas = λ i up. replica_later f k.history g i (w.replicas i) k.sound grows (submit_apart f k.history m i) (k.replicas i up);
      cached = k.cached;
      stores = k.stores;
      used = k.used;
      order = done_later f k.history g w.order k.sound grows k.order;
      executed = k.executed;
      sent = all_say_later f answer k.history g w.sent k.sound grows k.sent;
    }

last_among : {X : Type 0} (xs : List X) (m : X) → IsAmong (xs ++ m ∷ []) m
last_among xs m = record { place = length xs; is = at xs m }
  where
    at : {X : Type 0} (xs : List X) (m : X) → slice_get (xs ++ m ∷ []) (length xs) ≡ Some m
    at [] m = refl
    at (x ∷ xs) m = at xs m

submits_ok : {C A : Type 0} (f : ℕ) (answer : List C → A) {base : Base C} {was : ℕ → ℕ → Type 0} (w : World C A) (c : ℕ) (command : C) → WorldOk f answer base was w → WorldOk f answer base was (submits f answer w c command)
submits_ok {C} {A} f answer {base} {was} w c command k =
    let m : Request C = next_request c (w.clients c) command in
    let n : WorldOk f answer base was (record w { submitted = w.submitted ++ m ∷ [] }) = with_submitted f answer w m k in
    let new : IsAmong n.history.asked m = subst (λ x. IsAmong x m) (sym n.asked) (last_among w.submitted m) in
    clients_ok f answer (record w { submitted = w.submitted ++ m ∷ [] }) _ _ w.failing n
    (one_client f answer n c _ (λ x e. subst (IsAmong n.history.asked) (same_Some _ _ e) new)) (new, tt)

restarts_ok : {C A : Type 0} (f : ℕ) (answer : List C → A) {base : Base C} {was : ℕ → ℕ → Type 0} (w : World C A) (i x : ℕ) (completion : Completion) → is_down (w.replicas i).status ≡ true → w.used i x ≡ false → WorldOk f answer base was w → Was was w
    → WorldOk f answer base was (restarts f answer w i x completion)
restarts_ok {C} {A} f answer {base} {was} w i x completion is_it new k here =
    let fits = good_on_restart f i answer k.history r x k.sound (k.stores i) (unused (k.history.used i x) refl new) in
    does_ok f i answer w nonces (w.stores i) (on_restart f i answer r x) completion k here fits.0 (omega arith)
    (λ up. absurd (let c : true ≡ false = sym is_it ∙ up in cc))
    (λ j y u. told j y (fits.1 j y u)) more
  where
    nonces : ℕ → ℕ → Bool
    nonces = put w.used i (put (w.used i) x true)

    r : ReplicaState C
    r = record (w.replicas i) { stored_view = w.stores i }

    unused : (b : Bool) → k.history.used i x ≡ b → w.used i x ≡ false → k.history.used i x ≡ false
    unused true e n = absurd (let c : true ≡ false = sym (k.used i x e) ∙ n in cc)
    unused false e n = e

    more : (j y : ℕ) → w.used j y ≡ true → nonces j y ≡ true
    more j y u = put_cases w.used i (put (w.used i) x true) j (λ t. t y ≡ true)
        (λ e. put_cases (w.used i) x true y (λ b. b ≡ true) (λ d. refl) (λ ne. ap (λ z. w.used z y) (sym e) ∙ u)) (λ ne. u)

    told : (j y : ℕ) → put_at k.history.used i x true j y ≡ true → nonces j y ≡ true
    told j y e = elim (cases_eq j i) [
      | inl a ↦ elim (cases_eq y x) [
        | inl b ↦ ap (λ t. t y) (put_same w.used i (put (w.used i) x true) j a) ∙ put_same (w.used i) x true y b
        | inr b ↦ more j y (k.used j y (sym (put_at_other k.history.used i x true j y (λ p q. b q)) ∙ e))
      ]
      | inr a ↦ more j y (k.used j y (sym (put_at_other k.history.used i x true j y (λ p q. a p)) ∙ e))
    ]

steps_ok : {C A : Type 0} (f : ℕ) (answer : List C → A) {base : Base C} {was : ℕ → ℕ → Type 0} (w : World C A) (e : Event C) (completion : Completion) → refusal f w e ≡ None → WorldOk f answer base was w → Was was w → WorldOk f answer base was (steps f answer w e completion)
steps_ok f answer {base} {was} w (Submit c command) completion fits k here = submits_ok f answer w c command k
steps_ok f answer {base} {was} w (Retry c) completion fits k here = clients_ok f answer w w.clients _ w.failing k k.waits (says_retried f answer k.history c (group_size f) (w.clients c).waits (k.waits c))
steps_ok f answer {base} {was} w (ClientRestart c) completion fits k here = clients_same f answer w _ w.failing k (one_client f answer k c _ (λ m e. absurd cc))
steps_ok f answer {base} {was} w (Deliver n) completion fits k here = comes_ok f answer w (slice_get w.sent n) completion k here (λ x e. said f answer k.history w.sent n x k.sent e)
steps_ok f answer {base} {was} w (Timeout i) completion fits k here = up_does_ok f i answer w _ completion k here (λ ok. good_on_timeout f i answer k.history (w.replicas i) k.sound ok)
steps_ok f answer {base} {was} w (Resend i) completion fits k here = up_does_ok f i answer w _ completion k here (λ ok. good_on_resend f i answer k.history (w.replicas i) k.sound ok)
steps_ok f answer {base} {was} w (Crash i) completion fits k here = stays_ok f i answer w w.used w.failing (down (w.replicas i)) (w.stores i) k here (λ up. absurd cc) (k.stores i) (prefix_nil w.order) (λ j y u. u)
steps_ok f answer {base} {was} w (Restart i x) completion fits k here = let p = restart_fits f w i x fits in restarts_ok f answer w i x completion p.0 p.1 k here
steps_ok f answer {base} {was} w (StoreFail i keeps_new) completion fits k here = clients_same f answer w w.clients _ k k.waits

pub happens_ok : {C A : Type 0} (f : ℕ) (answer : List C → A) {base : Base C} {was : ℕ → ℕ → Type 0} (w : World C A) (e : Event C) (completion : Completion) → WorldOk f answer base was w → Was was w → WorldOk f answer base was (happens f answer w e completion)
happens_ok {C} {A} f answer {base} {was} w e completion k here = go (refusal f w e) refl
  where
    go : (reason : Option Reason) → refusal f w e ≡ reason → WorldOk f answer base was (if_none reason (steps f answer w e completion) w)
    go None fits = steps_ok f answer w e completion fits k here
    go (Some reason) is = k
