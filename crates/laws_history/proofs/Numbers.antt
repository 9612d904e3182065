-- The numbers that clients give only rise.
use Rattle.std.proofs.Common.{◌≡◌, ℕ, zero, suc, max, ◌==◌, ◌+◌, ◌^◌, ◌<◌, ◌≤◌, Bool, true, false, cond, not, ltb, ◌||◌, ◌⊎◌, List, [], ◌∷◌, ◌++◌, Option, Some, None, arith, refl, sym, ap, ◌∙◌, subst, inl, inr}
use Rattle.std.specs.Prelude.{slice_get}
use Rattle.std.proofs.lemmas.Option.{same_Some}
use Rattle.std.proofs.lemmas.Bool.{eqb-true, ltb-true, lt-ltb}
use Rattle.vr_model.specs.Logs.{Request, IsAmong, IsRising, is_above, last_number, greater}
use Rattle.laws_history.proofs.Rising.{rising_nil, rising_append}
use Rattle.vr_model.specs.Groups.{group_size, primary}
use Rattle.vr_model.specs.Messages.{Party, Replica, Client, Body, Reply, Message}
use Rattle.vr_model.specs.Replicas.{Outcome, put, is_down}
use Rattle.vr_model.specs.Rules.{receives, on_timeout, on_resend, on_restart}
use Rattle.laws_history.proofs.Reasons.{submit_fits}
use Rattle.vr_model.specs.World.{Reason, next_request, has_submitted, ClientState, World, Event, Submit, Retry, ClientRestart, Deliver, Timeout, Resend, Crash, Restart, StoreFail, Completion, Ending, ending_of, goes, does, if_up, replied, comes_to_client, comes_to, comes, request_message, submits, restarts, refusal, if_none, steps, happens, run, start, given}
use Rattle.laws_history.proofs.Tables.{put_same, put_cases}

pub record ClientsOk {C A : Type 0} (w : World C A) : Type 0 where
  pub counts : (c : ℕ) → (w.clients c).sequence < 2 ^ 32
  pub numbers : (m : Request C) → IsAmong w.submitted m → m.number ≤ given (w.clients m.client)
  pub rising : IsRising w.submitted

above_greater : (a b : Option ℕ) (n : ℕ) → is_above n a ≡ true → is_above n b ≡ true → is_above n (greater a b) ≡ true
above_greater None b n p q = q
above_greater (Some x) None n p q = p
above_greater (Some x) (Some y) n p q = lt-ltb (max x y) n (omega (arith, ltb-true x n p, ltb-true y n q))

-- a number above all of a client's is above its last
above_last : {C : Type 0} (xs : List (Request C)) (c n : ℕ) → ((x : Request C) → IsAmong xs x → x.client ≡ c → x.number < n) → is_above n (last_number xs c) ≡ true
above_last [] c n all = refl
above_last {C} (m ∷ ms) c n all = above_greater _ (last_number ms c) n (own (m.client == c) refl) (above_last ms c n (λ x a e. all x (record { place = suc a.place; is = a.is }) e))
  where
    own : (b : Bool) → (m.client == c) ≡ b → is_above n (cond b (Some m.number) None) ≡ true
    own true e = lt-ltb m.number n (all m (record { place = 0; is = refl }) (eqb-true m.client c e))
    own false e = refl

same_clients : {C A : Type 0} (w v : World C A) → v.clients ≡ w.clients → v.submitted ≡ w.submitted → ClientsOk w → ClientsOk v
same_clients {C} w v e d k = record {
  counts = λ c. subst (λ (t : ℕ → ClientState C). (t c).sequence < 2 ^ 32) (sym e) (k.counts c);
  numbers = λ m a. subst (λ (t : ℕ → ClientState C). m.number ≤ given (t m.client)) (sym e) (k.numbers m (subst (λ xs. IsAmong xs m) d a));
  rising = subst (λ (xs : List (Request C)). IsRising xs) (sym d) k.rising;
}

goes_same : {C A : Type 0} (f : ℕ) (answer : List C → A) (w : World C A) (i : ℕ) (o : Outcome C A) (ending : Ending)
    → ((goes f answer w i o ending).clients ≡ w.clients) × ((goes f answer w i o ending).submitted ≡ w.submitted)
goes_same f answer w i o ending = (refl, refl)

does_ok : {C A : Type 0} (f : ℕ) (answer : List C → A) (w : World C A) (i : ℕ) (o : Outcome C A) (completion : Completion) → ClientsOk w → ClientsOk (does f answer w i o completion)
does_ok f answer w i o completion k = let e = goes_same f answer w i o (ending_of completion o.saves (w.failing i)) in same_clients w _ e.0 e.1 k

either : {C A : Type 0} (b : Bool) (v w : World C A) → ClientsOk v → ClientsOk w → ClientsOk (cond b v w)
either true v w a b = a
either false v w a b = b

among_cases : {X : Type 0} (xs : List X) (m x : X) (n : ℕ) → slice_get (xs ++ m ∷ []) n ≡ Some x → IsAmong xs x ⊎ (m ≡ x)
among_cases [] m x zero e = inr (same_Some _ _ e)
among_cases [] m x (suc n) e = absurd cc
among_cases (y ∷ ys) m x zero e = inl (record { place = 0; is = e })
among_cases (y ∷ ys) m x (suc n) e = elim (among_cases ys m x n e) [ inl a ↦ inl (record { place = suc a.place; is = a.is }) | inr d ↦ inr d ]

-- one client changes, and has given no less
one_client : {C A : Type 0} (w : World C A) (c : ℕ) (new : ClientState C) → ClientsOk w → new.sequence < 2 ^ 32 → given (w.clients c) ≤ given new → ClientsOk (record w { clients = put w.clients c new })
one_client {C} w c new k low more = record {
  counts = λ d. put_cases w.clients c new d (λ x. x.sequence < 2 ^ 32) (λ e. low) (λ ne. k.counts d);
  numbers = λ m a. put_cases w.clients c new m.client (λ x. m.number ≤ given x)
      (λ e. let b : given (w.clients m.client) ≡ given (w.clients c) = ap (λ d. given (w.clients d)) e in omega (arith, k.numbers m a))
      (λ ne. k.numbers m a);
  rising = k.rising;
}

submitted_ok : {C A : Type 0} (w : World C A) (c : ℕ) (new : ClientState C) (m : Request C) (ms : List (Message C A)) → ClientsOk w → new.sequence < 2 ^ 32 → given (w.clients c) ≤ given new
    → m.client ≡ c → given (w.clients c) < m.number → m.number ≤ given new → ClientsOk (record w { clients = put w.clients c new; sent = ms; submitted = w.submitted ++ m ∷ [] })
submitted_ok {C} {A} w c new m ms k low more its above below = record {
  counts = next.counts;
  numbers = λ x a. elim (among_cases w.submitted m x a.place a.is) [
    | inl old ↦ next.numbers x old
    | inr e ↦ let b : put w.clients c new x.client ≡ new = put_same w.clients c new x.client (ap (λ y. y.client) (sym e) ∙ its) in
        let d : given (put w.clients c new x.client) ≡ given new = ap given b in
        let n : m.number ≡ x.number = ap (λ y. y.number) e in omega arith
  ];
  rising = rising_append w.submitted m k.rising (above_last w.submitted m.client m.number (λ x a e.
      let g : given (w.clients x.client) ≡ given (w.clients c) = ap (λ d. given (w.clients d)) (e ∙ its) in omega (arith, k.numbers x a)));
}
  where
    next : ClientsOk (record w { clients = put w.clients c new })
    next = one_client w c new k low more

submits_ok : {C A : Type 0} (f : ℕ) (answer : List C → A) (w : World C A) (c : ℕ) (command : C) → (w.clients c).sequence + 1 < 2 ^ 32 → ClientsOk w → ClientsOk (submits f answer w c command)
submits_ok {C} {A} f answer w c command low k =
    let m : Request C = next_request c (w.clients c) command in
    submitted_ok w c (has_submitted (w.clients c) m) m (w.sent ++ request_message f answer c (primary f (w.clients c).view) m ∷ []) k low (omega arith) refl (omega arith) (omega arith)

up_ok : {C A : Type 0} (f : ℕ) (answer : List C → A) (w : World C A) (i : ℕ) (o : Outcome C A) (completion : Completion) → ClientsOk w → ClientsOk (if_up f answer w i (does f answer w i o completion))
up_ok f answer w i o completion k = either (is_down (w.replicas i).status || not (ltb i (group_size f))) w (does f answer w i o completion) k (does_ok f answer w i o completion k)

restarts_ok : {C A : Type 0} (f : ℕ) (answer : List C → A) (w : World C A) (i x : ℕ) (completion : Completion) → ClientsOk w → ClientsOk (restarts f answer w i x completion)
restarts_ok {C} {A} f answer w i x completion k =
    let v : World C A = record w { used = put w.used i (put (w.used i) x true) } in
    does_ok f answer v i (on_restart f i answer (record (w.replicas i) { stored_view = w.stores i }) x) completion (same_clients w v refl refl k)

comes_ok : {C A : Type 0} (f : ℕ) (answer : List C → A) (w : World C A) (m : Option (Message C A)) (completion : Completion) → ClientsOk w → ClientsOk (comes f answer w m completion)
comes_ok f answer w None completion k = k
comes_ok {C} {A} f answer w (Some m) completion k = go m.to m.body
  where
    client : (c : ℕ) (b : Body C A) → ClientsOk (comes_to_client f answer w c b)
    client c (Reply v n a) = one_client w c (replied f answer (w.clients c) v n) k (k.counts c) (omega arith)
    client c _ = k

    go : (to : Party) (b : Body C A) → ClientsOk (comes_to f answer w to m.from b completion)
    go (Replica i) b = up_ok f answer w i (receives f i answer (w.replicas i) m.from b) completion k
    go (Client c) b = client c b

steps_ok : {C A : Type 0} (f : ℕ) (answer : List C → A) (w : World C A) (e : Event C) (completion : Completion) → refusal f w e ≡ None → ClientsOk w → ClientsOk (steps f answer w e completion)
steps_ok f answer w (Submit c command) completion fits k = submits_ok f answer w c command (submit_fits f w c command fits) k
steps_ok f answer w (Retry c) completion fits k = same_clients w _ refl refl k
steps_ok f answer w (ClientRestart c) completion fits k = one_client w c _ k (omega arith) (let l : (w.clients c).sequence < 2 ^ 32 = k.counts c in omega arith)
steps_ok f answer w (Deliver n) completion fits k = comes_ok f answer w (slice_get w.sent n) completion k
steps_ok f answer w (Timeout i) completion fits k = up_ok f answer w i (on_timeout f i answer (w.replicas i)) completion k
steps_ok f answer w (Resend i) completion fits k = up_ok f answer w i (on_resend f i answer (w.replicas i)) completion k
steps_ok f answer w (Crash i) completion fits k = same_clients w _ refl refl k
steps_ok f answer w (Restart i x) completion fits k = restarts_ok f answer w i x completion k
steps_ok f answer w (StoreFail i b) completion fits k = same_clients w _ refl refl k

pub happens_numbers : {C A : Type 0} (f : ℕ) (answer : List C → A) (w : World C A) (e : Event C) (completion : Completion) → ClientsOk w → ClientsOk (happens f answer w e completion)
happens_numbers {C} {A} f answer w e completion k = go (refusal f w e) refl
  where
    go : (reason : Option Reason) → refusal f w e ≡ reason → ClientsOk (if_none reason (steps f answer w e completion) w)
    go None fits = steps_ok f answer w e completion fits k
    go (Some reason) is = k

pub run_clients : {C A : Type 0} (f : ℕ) (answer : List C → A) (w : World C A) (es : List (Event C × Completion)) → ClientsOk w → ClientsOk (run f answer es w)
run_clients f answer w [] k = k
run_clients f answer w (e ∷ es) k = run_clients f answer (happens f answer w e.0 e.1) es (happens_numbers f answer w e.0 e.1 k)

pub start_clients : {C A : Type 0} → ClientsOk (start {C = C} {A = A})
start_clients = record { counts = λ c. omega arith; numbers = λ m a. absurd (let e = a.is in cc); rising = rising_nil }
