-- The numbers that clients give in a run, and what they submit, read off its events.
use Rattle.std.proofs.Common.{◌≡◌, ℕ, zero, suc, ◌+◌, ◌-◌, ◌*◌, ◌^◌, ◌<◌, ◌≤◌, Bool, true, false, cond, ◌==◌, ◌||◌, not, ltb, List, [], ◌∷◌, ◌++◌, length, take, drop, map, Option, Some, None, arith, refl, sym, ap, ap₂, ◌∙◌, subst, inl, inr, ◌⊎◌}
use Rattle.std.specs.Prelude.{slice_get}
use Rattle.std.specs.List.{count_by, after_last, prefix_len, suffix_len}
use Rattle.std.proofs.lemmas.Bool.{eqb-true}
use Rattle.std.proofs.lemmas.List.{length-append, append-nil, drop-append-le, drop_all, reverse-append}
use Rattle.std.proofs.lemmas.List.Sums.{sum_by_push, suffix_len-le-length}
use Rattle.std.proofs.lemmas.Option.{same_Some}
use Rattle.il_model.specs.declared.command.Command.{Command}
use Rattle.il_model.specs.declared.command.Answer.{Answer}
use Rattle.vr_model.specs.Groups.{group_size}
use Rattle.vr_model.specs.Logs.{Request, IsAmong}
use Rattle.vr_model.specs.Messages.{Party, Replica, Client, Body, Reply, Message}
use Rattle.vr_model.specs.Rules.{receives, on_timeout, on_resend}
use Rattle.vr_model.specs.World as world
use Rattle.vr_model.specs.World.{Reason, ClientState, World, Event, Completion, next_request, has_submitted, restarts_client, replied, refusal, if_none, happens, steps, comes, comes_to, comes_to_client, does, if_up, run, start}
use Rattle.vr_model.specs.Replicas.{is_down}
use Rattle.vr_model.specs.Report.{refused_at, first_refusal}
use Rattle.vr_schedules.specs.declared.event.WorldEvent.{WorldEvent}
use Rattle.vr_schedules.specs.declared.event.WorldEvent.TheVariants as code
use Rattle.vr_schedules.specs.Events.{event_of, events_of}
use Rattle.vr_world.specs.History.{is_start_of, is_submission_of, next_number}

-- ---- lists

-- what stands at a place
pub there : {X : Type 0} (xs : List X) (n : ℕ) → n < length xs → (x : X) × (slice_get xs n ≡ Some x)
there [] n l = absurd (omega arith)
there (x ∷ xs) zero l = (x, refl)
there (x ∷ xs) (suc n) l = there xs n (omega arith)

pub take_there : {X : Type 0} (xs : List X) (n : ℕ) (x : X) → slice_get xs n ≡ Some x → take (suc n) xs ≡ take n xs ++ x ∷ []
take_there [] zero x e = absurd cc
take_there [] (suc n) x e = absurd cc
take_there (y ∷ xs) zero x e = let same : y ≡ x = cc in ap (λ z. z ∷ []) same
take_there (y ∷ xs) (suc n) x e = ap (λ l. y ∷ l) (take_there xs n x e)

-- what stands at a place of a list that was made member by member
pub record IsMadeOf {X Y : Type 0} (f : X → Y) (xs : List X) (k : ℕ) (y : Y) : Type 0 where
  pub from : X
  pub at : slice_get xs k ≡ Some from
  pub is : f from ≡ y

pub made_of : {X Y : Type 0} (f : X → Y) (xs : List X) (k : ℕ) (y : Y) → slice_get (map f xs) k ≡ Some y → IsMadeOf f xs k y
made_of f [] zero y e = absurd cc
made_of f [] (suc k) y e = absurd cc
made_of f (x ∷ xs) zero y e = record { from = x; at = refl; is = (let same : f x ≡ y = cc in same) }
made_of f (x ∷ xs) (suc k) y e = let m = made_of f xs k y e in record { from = m.from; at = m.at; is = m.is }

pub map_at : {X Y : Type 0} (f : X → Y) (xs : List X) (k : ℕ) (x : X) → slice_get xs k ≡ Some x → slice_get (map f xs) k ≡ Some (f x)
map_at f [] zero x e = absurd cc
map_at f [] (suc k) x e = absurd cc
map_at f (y ∷ xs) zero x e = let same : y ≡ x = cc in ap (λ z. Some (f z)) same
map_at f (y ∷ xs) (suc k) x e = map_at f xs k x e

in_append : {X : Type 0} (xs ys : List X) (k : ℕ) (x : X) → slice_get (xs ++ ys) k ≡ Some x → IsAmong xs x ⊎ IsAmong ys x
in_append [] ys k x e = inr (record { place = k; is = e })
in_append (z ∷ xs) ys zero x e = inl (record { place = 0; is = e })
in_append (z ∷ xs) ys (suc k) x e = elim (in_append xs ys k x e) [
  | inl a ↦ inl (record { place = suc a.place; is = a.is })
  | inr b ↦ inr b
]

none_in_nil : {X : Type 0} (k : ℕ) (x : X) → slice_get [] k ≡ Some x → ⊥
none_in_nil zero x e = absurd cc
none_in_nil (suc k) x e = absurd cc

only_one : {X : Type 0} (y : X) (k : ℕ) (x : X) → slice_get (y ∷ []) k ≡ Some x → y ≡ x
only_one y zero x e = same_Some _ _ e
only_one y (suc k) x e = absurd (none_in_nil k x e)

-- one more behind them
count-one_more : {X : Type 0} (p : X → Bool) (xs : List X) (x : X) → count_by p (xs ++ x ∷ []) ≡ count_by p xs + cond (p x) 1 0
count-one_more p xs x = sum_by_push (λ y. cond (p y) 1 0) xs x

suffix-one_more : {X : Type 0} (p : X → Bool) (xs : List X) (x : X) → suffix_len p (xs ++ x ∷ []) ≡ cond (p x) (1 + suffix_len p xs) 0
suffix-one_more p xs x = ap (prefix_len p) (reverse-append xs (x ∷ []))

after-one_more : {X : Type 0} (p : X → Bool) (xs : List X) (x : X) → after_last p (xs ++ x ∷ []) ≡ cond (p x) [] (after_last p xs ++ x ∷ [])
after-one_more p xs x = go (p x) (suffix-one_more (λ y. not (p y)) xs x)
  where
    go : (b : Bool) → suffix_len (λ y. not (p y)) (xs ++ x ∷ []) ≡ cond (not b) (1 + suffix_len (λ y. not (p y)) xs) 0 → after_last p (xs ++ x ∷ []) ≡ cond b [] (after_last p xs ++ x ∷ [])
    go true e = drop_all (length (xs ++ x ∷ []) - suffix_len (λ y. not (p y)) (xs ++ x ∷ [])) (xs ++ x ∷ []) (omega arith)
    go false e =
        let size : length (xs ++ x ∷ []) ≡ length xs + 1 = length-append xs (x ∷ []) in
        let low : suffix_len (λ y. not (p y)) xs ≤ length xs = suffix_len-le-length (λ y. not (p y)) xs in
        let k : length (xs ++ x ∷ []) - suffix_len (λ y. not (p y)) (xs ++ x ∷ []) ≡ length xs - suffix_len (λ y. not (p y)) xs = omega arith in
        ap (λ n. drop n (xs ++ x ∷ [])) k ∙ drop-append-le (length xs - suffix_len (λ y. not (p y)) xs) xs (x ∷ []) (omega arith)

-- ---- one event

-- what a client has given after it
record Counts (old new : ClientState Command) (started submitted : Bool) : Type 0 where
  starts : new.starts ≡ old.starts + cond started 1 0
  sequence : new.sequence ≡ cond started 0 (old.sequence + cond submitted 1 0)

counts_none : (old new : ClientState Command) → new.starts ≡ old.starts → new.sequence ≡ old.sequence → Counts old new false false
counts_none old new a b = record { starts = omega arith; sequence = omega arith }

module _ (f : ℕ) (answer : List Command → Answer) where
  if_same : (b : Bool) (w v : World Command Answer) (c : ℕ) → v.clients ≡ w.clients → Counts (w.clients c) ((cond b w v).clients c) false false
  if_same true w v c e = counts_none (w.clients c) (w.clients c) refl refl
  if_same false w v c e = let same : v.clients c ≡ w.clients c = ap (λ (k : ℕ → ClientState Command). k c) e in counts_none (w.clients c) (v.clients c) (ap (λ (k : ClientState Command). k.starts) same) (ap (λ (k : ClientState Command). k.sequence) same)

  submits_at : (w : World Command Answer) (c d : ℕ) (m : Request Command) (b : Bool) → (c == d) ≡ b → Counts (w.clients c) (cond b (has_submitted (w.clients d) m) (w.clients c)) false b
  submits_at w c d m true e =
      let same : w.clients d ≡ w.clients c = ap w.clients (sym (eqb-true c d e)) in
      let starts : (w.clients d).starts ≡ (w.clients c).starts = ap (λ (k : ClientState Command). k.starts) same in
      record { starts = omega arith; sequence = ap (λ (k : ClientState Command). k.sequence + 1) same }
  submits_at w c d m false e = counts_none (w.clients c) (w.clients c) refl refl

  restarts_at : (w : World Command Answer) (c d : ℕ) (b : Bool) → (c == d) ≡ b → Counts (w.clients c) (cond b (restarts_client f answer (w.clients d)) (w.clients c)) b false
  restarts_at w c d true e = record { starts = ap (λ (k : ClientState Command). k.starts + 1) (ap w.clients (sym (eqb-true c d e))); sequence = refl }
  restarts_at w c d false e = counts_none (w.clients c) (w.clients c) refl refl

  hears_at : (w : World Command Answer) (c d v n : ℕ) (b : Bool) → (c == d) ≡ b → Counts (w.clients c) (cond b (replied f answer (w.clients d) v n) (w.clients c)) false false
  hears_at w c d v n true e =
      let same : w.clients d ≡ w.clients c = ap w.clients (sym (eqb-true c d e)) in
      counts_none (w.clients c) (replied f answer (w.clients d) v n) (ap (λ (k : ClientState Command). k.starts) same) (ap (λ (k : ClientState Command). k.sequence) same)
  hears_at w c d v n false e = counts_none (w.clients c) (w.clients c) refl refl

  unchanged : (w : World Command Answer) (c : ℕ) → Counts (w.clients c) (w.clients c) false false
  unchanged w c = counts_none (w.clients c) (w.clients c) refl refl

  comes_counts : (w : World Command Answer) (c : ℕ) (to from : Party) (body : Body Command Answer) (completion : Completion) → Counts (w.clients c) ((comes_to f answer w to from body completion).clients c) false false
  comes_counts w c (Replica i) from body completion = if_same (is_down (w.replicas i).status || not (ltb i (group_size f))) w (does f answer w i (receives f i answer (w.replicas i) from body) completion) c refl
  comes_counts w c (Client d) from (Reply v n a) completion = hears_at w c d v n (c == d) refl
  comes_counts w c (Client d) from _ completion = unchanged w c

  message_counts : (w : World Command Answer) (c : ℕ) (o : Option (Message Command Answer)) (completion : Completion) → Counts (w.clients c) ((comes f answer w o completion).clients c) false false
  message_counts w c None completion = unchanged w c
  message_counts w c (Some m) completion = comes_counts w c m.to m.from m.body completion

  event_counts : (w : World Command Answer) (c : ℕ) (y : WorldEvent) (completion : Completion) → Counts (w.clients c) ((steps f answer w (event_of y) completion).clients c) (is_start_of c y) (is_submission_of c y)
  event_counts w c (code.Submit d command) completion = submits_at w c d (next_request d (w.clients d) command) (c == d) refl
  event_counts w c (code.Retry d) completion = unchanged w c
  event_counts w c (code.ClientRestart d) completion = restarts_at w c d (c == d) refl
  event_counts w c (code.Deliver n) completion = message_counts w c (slice_get w.sent n) completion
  event_counts w c (code.Timeout i) completion = if_same (is_down (w.replicas i).status || not (ltb i (group_size f))) w (does f answer w i (on_timeout f i answer (w.replicas i)) completion) c refl
  event_counts w c (code.Resend i) completion = if_same (is_down (w.replicas i).status || not (ltb i (group_size f))) w (does f answer w i (on_resend f i answer (w.replicas i)) completion) c refl
  event_counts w c (code.Crash i) completion = unchanged w c
  event_counts w c (code.Restart i x) completion = unchanged w c
  event_counts w c (code.StoreFail i kept) completion = unchanged w c

  -- what it submits
  abbrev submission : World Command Answer → WorldEvent → List (Request Command)
  submission w (code.Submit d command) = next_request d (w.clients d) command ∷ []
  submission w _ = []

  no_more : (w v : World Command Answer) → v.submitted ≡ w.submitted → v.submitted ≡ w.submitted ++ []
  no_more w v e = e ∙ sym (append-nil w.submitted)

  if_no_more : (b : Bool) (w v : World Command Answer) → v.submitted ≡ w.submitted → (cond b w v).submitted ≡ w.submitted ++ []
  if_no_more true w v e = no_more w w refl
  if_no_more false w v e = no_more w v e

  comes_no_more : (w : World Command Answer) (to from : Party) (body : Body Command Answer) (completion : Completion) → (comes_to f answer w to from body completion).submitted ≡ w.submitted ++ []
  comes_no_more w (Replica i) from body completion = if_no_more (is_down (w.replicas i).status || not (ltb i (group_size f))) w (does f answer w i (receives f i answer (w.replicas i) from body) completion) refl
  comes_no_more w (Client d) from (Reply v n a) completion = no_more w w refl
  comes_no_more w (Client d) from _ completion = no_more w w refl

  message_no_more : (w : World Command Answer) (o : Option (Message Command Answer)) (completion : Completion) → (comes f answer w o completion).submitted ≡ w.submitted ++ []
  message_no_more w None completion = no_more w w refl
  message_no_more w (Some m) completion = comes_no_more w m.to m.from m.body completion

  event_submits : (w : World Command Answer) (y : WorldEvent) (completion : Completion) → (steps f answer w (event_of y) completion).submitted ≡ w.submitted ++ submission w y
  event_submits w (code.Submit d command) completion = refl
  event_submits w (code.Retry d) completion = no_more w w refl
  event_submits w (code.ClientRestart d) completion = no_more w w refl
  event_submits w (code.Deliver n) completion = message_no_more w (slice_get w.sent n) completion
  event_submits w (code.Timeout i) completion = if_no_more (is_down (w.replicas i).status || not (ltb i (group_size f))) w (does f answer w i (on_timeout f i answer (w.replicas i)) completion) refl
  event_submits w (code.Resend i) completion = if_no_more (is_down (w.replicas i).status || not (ltb i (group_size f))) w (does f answer w i (on_resend f i answer (w.replicas i)) completion) refl
  event_submits w (code.Crash i) completion = no_more w w refl
  event_submits w (code.Restart i x) completion = no_more w w refl
  event_submits w (code.StoreFail i kept) completion = no_more w w refl

  -- ---- a run

  run-append : (xs ys : List (Event Command × Completion)) (w : World Command Answer) → run f answer (xs ++ ys) w ≡ run f answer ys (run f answer xs w)
  run-append [] ys w = refl
  run-append (x ∷ xs) ys w = run-append xs ys (happens f answer w x.0 x.1)

  -- each event of it has a step
  none_first : (e : ℕ) (o : Option Reason) (rest : Option (ℕ × Reason)) → refused_at e o rest ≡ None → o ≡ None
  none_first e None rest h = refl
  none_first e (Some r) rest h = absurd cc

  none_later : (e : ℕ) (o : Option Reason) (rest : Option (ℕ × Reason)) → refused_at e o rest ≡ None → rest ≡ None
  none_later e None rest h = h
  none_later e (Some r) rest h = absurd cc

  has_step : (e : ℕ) (events : List (Event Command × Completion)) (w : World Command Answer) → first_refusal f answer e events w ≡ None → (n : ℕ) (x : Event Command × Completion) → slice_get events n ≡ Some x
      → refusal f (run f answer (take n events) w) x.0 ≡ None
  has_step e [] w h n x at = absurd (none_in_nil n x at)
  has_step e (y ∷ ys) w h zero x at = subst (λ (z : Event Command × Completion). refusal f w z.0 ≡ None) (same_Some _ _ at) (none_first e (refusal f w y.0) (first_refusal f answer (suc e) ys (happens f answer w y.0 y.1)) h)
  has_step e (y ∷ ys) w h (suc n) x at = has_step (suc e) ys (happens f answer w y.0 y.1) (none_later e (refusal f w y.0) (first_refusal f answer (suc e) ys (happens f answer w y.0 y.1)) h) n x at

  module _ (schedule : List WorldEvent) (events : List (Event Command × Completion)) (own : map (λ e. e.0) events ≡ events_of schedule) (have_steps : first_refusal f answer 0 events start ≡ None) where
    abbrev pub world_before : ℕ → World Command Answer
    world_before n = run f answer (take n events) start

    -- the event of a place
    pub record Goes (n : ℕ) (y : WorldEvent) : Type 0 where
      pub completion : Completion
      pub is : slice_get events n ≡ Some (event_of y, completion)
      pub step : world_before (suc n) ≡ steps f answer (world_before n) (event_of y) completion

    pub goes : (n : ℕ) (y : WorldEvent) → slice_get schedule n ≡ Some y → Goes n y
    goes n y at =
        let made = made_of (λ (e : Event Command × Completion). e.0) events n (event_of y) (ap (λ es. slice_get es n) own ∙ map_at event_of schedule n y at) in
        let x = made.from in
        let none : refusal f (world_before n) x.0 ≡ None = has_step 0 events start have_steps n x made.at in
        let more : world_before (suc n) ≡ happens f answer (world_before n) x.0 x.1 = ap (λ es. run f answer es start) (take_there events n x made.at) ∙ run-append (take n events) (x ∷ []) start in
        let stepped : happens f answer (world_before n) x.0 x.1 ≡ steps f answer (world_before n) x.0 x.1 = ap (λ o. if_none o (steps f answer (world_before n) x.0 x.1) (world_before n)) none in
        record {
          completion = x.1;
          is = made.at ∙ ap (λ e. Some (e, x.1)) made.is;
          step = more ∙ stepped ∙ ap (λ e. steps f answer (world_before n) e x.1) made.is;
        }

    -- what a client has given
    record IsCounted (n c : ℕ) : Type 0 where
      starts : ((world_before n).clients c).starts ≡ count_by (is_start_of c) (take n schedule)
      sequence : ((world_before n).clients c).sequence ≡ count_by (is_submission_of c) (after_last (is_start_of c) (take n schedule))

    sequence_after : (c : ℕ) (xs : List WorldEvent) (y : WorldEvent) (b : Bool) → is_start_of c y ≡ b
        → cond b 0 (count_by (is_submission_of c) (after_last (is_start_of c) xs) + cond (is_submission_of c y) 1 0) ≡ count_by (is_submission_of c) (cond b [] (after_last (is_start_of c) xs ++ y ∷ []))
    sequence_after c xs y true e = refl
    sequence_after c xs y false e = sym (count-one_more (is_submission_of c) (after_last (is_start_of c) xs) y)

    counted : (n c : ℕ) → n ≤ length schedule → IsCounted n c
    counted zero c l = record { starts = refl; sequence = refl }
    counted (suc n) c l =
        let at = there schedule n (omega arith) in
        let y = at.0 in
        let g = goes n y at.1 in
        let old = (world_before n).clients c in
        let new = (world_before (suc n)).clients c in
        let k : Counts old new (is_start_of c y) (is_submission_of c y) = subst (λ (w : World Command Answer). Counts old (w.clients c) (is_start_of c y) (is_submission_of c y)) (sym g.step) (event_counts (world_before n) c y g.completion) in
        let before = counted n c (omega arith) in
        record {
          starts = k.starts ∙ ap (λ s. s + cond (is_start_of c y) 1 0) before.starts ∙ sym (count-one_more (is_start_of c) (take n schedule) y) ∙ ap (count_by (is_start_of c)) (sym (take_there schedule n y at.1));
          sequence = k.sequence
              ∙ ap (λ s. cond (is_start_of c y) 0 (s + cond (is_submission_of c y) 1 0)) before.sequence
              ∙ sequence_after c (take n schedule) y (is_start_of c y) refl
              ∙ ap (count_by (is_submission_of c)) (sym (after-one_more (is_start_of c) (take n schedule) y))
              ∙ ap (λ es. count_by (is_submission_of c) (after_last (is_start_of c) es)) (sym (take_there schedule n y at.1));
        }

    -- the number that it gives next
    pub number_is : (n c : ℕ) → n ≤ length schedule → world.next_number ((world_before n).clients c) ≡ next_number c (take n schedule)
    number_is n c l = let k = counted n c l in ap₂ (λ s q. s * 2 ^ 32 + (q + 1)) k.starts k.sequence

    -- what was submitted, an event submitted
    pub record IsBy (n : ℕ) (m : Request Command) : Type 0 where
      pub event : ℕ
      pub client : ℕ
      pub command : Command
      pub early : event < n
      pub scheduled : slice_get schedule event ≡ Some (code.Submit client command)
      pub is : m ≡ next_request client ((world_before event).clients client) command

    later : (n : ℕ) (m : Request Command) → IsBy n m → IsBy (suc n) m
    later n m b = record { event = b.event; client = b.client; command = b.command; early = (let e : b.event < n = b.early in omega arith); scheduled = b.scheduled; is = b.is }

    by_event : (n : ℕ) (y : WorldEvent) (k : ℕ) (m : Request Command) → slice_get schedule n ≡ Some y → slice_get (submission (world_before n) y) k ≡ Some m → IsBy (suc n) m
    by_event n (code.Submit d command) k m at is = record { event = n; client = d; command = command; early = omega arith; scheduled = at; is = sym (only_one (next_request d ((world_before n).clients d) command) k m is) }
    by_event n _ k m at is = absurd (none_in_nil k m is)

    pub submitted_by : (n : ℕ) → n ≤ length schedule → (m : Request Command) → IsAmong (world_before n).submitted m → IsBy n m
    submitted_by zero l m a = absurd (none_in_nil a.place m a.is)
    submitted_by (suc n) l m a =
        let at = there schedule n (omega arith) in
        let g = goes n at.0 at.1 in
        let all : (world_before (suc n)).submitted ≡ (world_before n).submitted ++ submission (world_before n) at.0 = ap (λ (w : World Command Answer). w.submitted) g.step ∙ event_submits (world_before n) at.0 g.completion in
        elim (in_append (world_before n).submitted (submission (world_before n) at.0) a.place m (subst (λ ms. slice_get ms a.place ≡ Some m) all a.is)) [
          | inl b ↦ later n m (submitted_by n (omega arith) m b)
          | inr b ↦ by_event n at.0 b.place m at.1 b.is
        ]
