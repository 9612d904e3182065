-- What clients submit by their steps, and under which numbers, read off the events that these are.
use Rattle.std.proofs.Common.{◌≡◌, ℕ, zero, suc, ◌+◌, ◌*◌, ◌^◌, ◌<◌, Bool, true, false, cond, ◌==◌, List, [], ◌∷◌, ◌++◌, take, Some, arith, refl, sym, ap, ap₂, ◌∙◌, subst, append_assoc}
use Rattle.std.specs.Prelude.{slice_get}
use Rattle.std.specs.List.{count_by, after_last}
use Rattle.std.proofs.lemmas.Bool.{eqb-true}
use Rattle.std.proofs.lemmas.List.{append-nil}
use Rattle.std.proofs.lemmas.Option.{same_Some}
use Rattle.il_model.specs.declared.command.Command.{Command}
use Rattle.il_model.specs.declared.command.Answer.{Answer}
use Rattle.vr_model.specs.Groups.{client_count}
use Rattle.vr_model.specs.Logs.{Request}
use Rattle.vr_model.specs.Messages.{Body, Reply, Message}
use Rattle.vr_model.specs.Replicas.{put}
use Rattle.vr_model.specs.World as world
use Rattle.vr_model.specs.World.{ClientState, next_request, has_submitted, restarts_client}
use Rattle.vr_model.specs.Steps.{ClientAction, Submits, Retries, StartsAgain, Hears, ClientStep, MayClient, client_after, client_sends, heard, LocalState, after, sends_of}
use Rattle.vr_model.specs.Interleaving.{Move, OfReplica, OfClient, AreMoves, requests, submitted_in}
use Rattle.vr_schedules.specs.declared.event.WorldEvent.{WorldEvent}
use Rattle.vr_schedules.specs.declared.event.WorldEvent.TheVariants as code
use Rattle.vr_world.specs.History.{is_start_of, is_submission_of, next_number}
use Rattle.laws_clients.specs.ClientHistory.{clients_of}
use Rattle.laws_answers.specs.Seen.{event_of}
use Rattle.laws_answers.proofs.Lists.{count-one_more, after-one_more}

abbrev pub Did : Type 0
Did = ℕ × ClientStep Command Answer

-- these are the events of these steps
abbrev pub AreEvents : List Did → List WorldEvent → Type 0
AreEvents [] [] = Unit {0}
AreEvents [] (e ∷ es) = ⊥
AreEvents (x ∷ xs) [] = ⊥
AreEvents (x ∷ xs) (e ∷ es) = ((place : ℕ) × (e ≡ event_of x.0 x.1.action place)) × AreEvents xs es

-- ---- what a client has given after a step

record Counts (old new : ClientState Command) (started submitted : Bool) : Type 0 where
  starts : new.starts ≡ old.starts + cond started 1 0
  sequence : new.sequence ≡ cond started 0 (old.sequence + cond submitted 1 0)

counts_none : (old new : ClientState Command) → new.starts ≡ old.starts → new.sequence ≡ old.sequence → Counts old new false false
counts_none old new a b = record { starts = omega (arith, a); sequence = omega (arith, b) }

module _ (f : ℕ) (answer : List Command → Answer) where
  heard_starts : (c : ℕ) (k : ClientState Command) (b : Body Command Answer) → (heard f c answer k b).starts ≡ k.starts
  heard_starts c k (Reply v n a) = refl
  heard_starts c k _ = refl

  heard_sequence : (c : ℕ) (k : ClientState Command) (b : Body Command Answer) → (heard f c answer k b).sequence ≡ k.sequence
  heard_sequence c k (Reply v n a) = refl
  heard_sequence c k _ = refl

  submits_at : (clients : ℕ → ClientState Command) (c d : ℕ) (m : Request Command) (b : Bool) → (c == d) ≡ b → Counts (clients c) (cond b (has_submitted (clients d) m) (clients c)) false b
  submits_at clients c d m true e =
      let same : clients d ≡ clients c = ap clients (sym (eqb-true c d e)) in
      let starts : (clients d).starts ≡ (clients c).starts = ap (λ (k : ClientState Command). k.starts) same in
      record { starts = omega (arith, starts); sequence = ap (λ (k : ClientState Command). k.sequence + 1) same }
  submits_at clients c d m false e = counts_none (clients c) (clients c) refl refl

  restarts_at : (clients : ℕ → ClientState Command) (c d : ℕ) (b : Bool) → (c == d) ≡ b → Counts (clients c) (cond b (restarts_client f answer (clients d)) (clients c)) b false
  restarts_at clients c d true e = record { starts = ap (λ (k : ClientState Command). k.starts + 1) (ap clients (sym (eqb-true c d e))); sequence = refl }
  restarts_at clients c d false e = counts_none (clients c) (clients c) refl refl

  -- it gives no number
  goes_on_at : (clients : ℕ → ClientState Command) (c d : ℕ) (next : ClientState Command) (b : Bool) → next.starts ≡ (clients d).starts → next.sequence ≡ (clients d).sequence → (c == d) ≡ b → Counts (clients c) (cond b next (clients c)) false false
  goes_on_at clients c d next true starts sequence e =
      let same : clients d ≡ clients c = ap clients (sym (eqb-true c d e)) in
      counts_none (clients c) next (starts ∙ ap (λ (k : ClientState Command). k.starts) same) (sequence ∙ ap (λ (k : ClientState Command). k.sequence) same)
  goes_on_at clients c d next false starts sequence e = counts_none (clients c) (clients c) refl refl

  step_counts : (clients : ℕ → ClientState Command) (c d : ℕ) (a : ClientAction Command Answer) (place : ℕ)
      → Counts (clients c) (put clients d (client_after f d answer (clients d) a) c) (is_start_of c (event_of d a place)) (is_submission_of c (event_of d a place))
  step_counts clients c d (Submits command) place = submits_at clients c d (next_request d (clients d) command) (c == d) refl
  step_counts clients c d Retries place = goes_on_at clients c d (clients d) (c == d) refl refl refl
  step_counts clients c d StartsAgain place = restarts_at clients c d (c == d) refl
  step_counts clients c d (Hears m) place = goes_on_at clients c d (heard f d answer (clients d) m.body) (c == d) (heard_starts d (clients d) m.body) (heard_sequence d (clients d) m.body) refl

  -- ---- by all events so far

  pub record IsCounted (past : List WorldEvent) (k : ClientState Command) (c : ℕ) : Type 0 where
    pub starts : k.starts ≡ count_by (is_start_of c) past
    pub sequence : k.sequence ≡ count_by (is_submission_of c) (after_last (is_start_of c) past)

  sequence_after : (c : ℕ) (past : List WorldEvent) (y : WorldEvent) (b : Bool) → is_start_of c y ≡ b
      → cond b 0 (count_by (is_submission_of c) (after_last (is_start_of c) past) + cond (is_submission_of c y) 1 0) ≡ count_by (is_submission_of c) (cond b [] (after_last (is_start_of c) past ++ y ∷ []))
  sequence_after c past y true e = refl
  sequence_after c past y false e = sym (count-one_more (is_submission_of c) (after_last (is_start_of c) past) y)

  one_more : (past : List WorldEvent) (old new : ClientState Command) (c : ℕ) (y : WorldEvent) → Counts old new (is_start_of c y) (is_submission_of c y) → IsCounted past old c → IsCounted (past ++ y ∷ []) new c
  one_more past old new c y k before = record {
    starts = k.starts ∙ ap (λ s. s + cond (is_start_of c y) 1 0) before.starts ∙ sym (count-one_more (is_start_of c) past y);
    sequence = k.sequence
        ∙ ap (λ s. cond (is_start_of c y) 0 (s + cond (is_submission_of c y) 1 0)) before.sequence
        ∙ sequence_after c past y (is_start_of c y) refl
        ∙ ap (count_by (is_submission_of c)) (sym (after-one_more (is_start_of c) past y));
  }

  number_is : (past : List WorldEvent) (k : ClientState Command) (c : ℕ) → IsCounted past k c → world.next_number k ≡ next_number c past
  number_is past k c counted = ap₂ (λ s q. s * 2 ^ 32 + (q + 1)) counted.starts counted.sequence

  -- ---- steps that are right from where each client stands

  abbrev pub AreRight : (ℕ → ClientState Command) → List Did → Type 0
  AreRight clients [] = Unit {0}
  AreRight clients (x ∷ xs) = MayClient f x.0 answer (clients x.0) x.1.action × (x.1.sends ≡ client_sends f x.0 answer (clients x.0) x.1.action)
      × AreRight (put clients x.0 (client_after f x.0 answer (clients x.0) x.1.action)) xs

  pub right_clients : (locals : ℕ → LocalState Command) (clients : ℕ → ClientState Command) (sent : List (Message Command Answer)) (ms : List (Move Command Answer)) → AreMoves f answer locals clients sent ms → AreRight clients (clients_of ms)
  right_clients locals clients sent [] right = tt
  right_clients locals clients sent (OfReplica i s place ∷ ms) right = right_clients (put locals i (after f i answer (locals i) s)) clients (sent ++ sends_of s) ms right.4
  right_clients locals clients sent (OfClient c d place ∷ ms) right =
      (right.0, right.1, right_clients locals (put clients c (client_after f c answer (clients c) d.action)) (sent ++ d.sends) ms right.3)

  -- a request was submitted by the event of a place, under the number that this gives
  pub record IsNumbered (past events : List WorldEvent) (at : ℕ) (m : Request Command) : Type 0 where
    pub is : slice_get events at ≡ Some (code.Submit m.client m.command)
    pub number : m.number ≡ next_number m.client (past ++ take at events)
    pub low : m.client < client_count

  -- by this very step
  record Submitted (d place : ℕ) (k : ClientState Command) (a : ClientAction Command Answer) (m : Request Command) : Type 0 where
    client : m.client ≡ d
    event : event_of d a place ≡ code.Submit d m.command
    number : m.number ≡ world.next_number k
    low : d < client_count

  the_one : (r m : Request Command) → r ∷ [] ≡ m ∷ [] → r ≡ m
  the_one r m e = same_Some r m (ap (λ (xs : List (Request Command)). slice_get xs 0) e)

  submitted : (d place : ℕ) (k : ClientState Command) (a : ClientAction Command Answer) (sends : List (Message Command Answer)) (m : Request Command) → MayClient f d answer k a → sends ≡ client_sends f d answer k a → submitted_in a sends ≡ m ∷ []
      → Submitted d place k a m
  submitted d place k (Submits command) sends m may says is =
      let same : next_request d k command ≡ m = the_one (next_request d k command) m (sym (ap requests says) ∙ is) in
      record {
        client = ap (λ (r : Request Command). r.client) (sym same);
        event = ap (λ (r : Request Command). code.Submit d r.command) same;
        number = ap (λ (r : Request Command). r.number) (sym same);
        low = may.0;
      }
  submitted d place k Retries sends m may says is = absurd (let no : [] ≡ m ∷ [] = is in cc)
  submitted d place k StartsAgain sends m may says is = absurd (let no : [] ≡ m ∷ [] = is in cc)
  submitted d place k (Hears message) sends m may says is = absurd (let no : [] ≡ m ∷ [] = is in cc)

  pub numbered : (past : List WorldEvent) (clients : ℕ → ClientState Command) → ((c : ℕ) → IsCounted past (clients c) c) → (did : List Did) (events : List WorldEvent) → AreRight clients did → AreEvents did events
      → (at c : ℕ) (client_step : ClientStep Command Answer) (m : Request Command) → slice_get did at ≡ Some (c, client_step) → submitted_in client_step.action client_step.sends ≡ m ∷ [] → IsNumbered past events at m
  numbered past clients counted [] events right of at c client_step m is submits = absurd cc
  numbered past clients counted (x ∷ xs) [] right of at c client_step m is submits = absurd of
  numbered past clients counted (x ∷ xs) (e ∷ es) right of zero c client_step m is submits =
      let same : x ≡ (c, client_step) = same_Some x (c, client_step) is in
      let its : submitted_in x.1.action x.1.sends ≡ m ∷ [] = ap (λ (y : Did). submitted_in y.1.action y.1.sends) same ∙ submits in
      let s = submitted x.0 of.0.0 (clients x.0) x.1.action x.1.sends m right.0 right.1 its in
      record {
        is = ap (λ (y : WorldEvent). Some y) (of.0.1 ∙ s.event) ∙ ap (λ d. Some (code.Submit d m.command)) (sym s.client);
        number = s.number ∙ number_is past (clients x.0) x.0 (counted x.0) ∙ ap₂ (λ d es. next_number d es) (sym s.client) (sym (append-nil past));
        low = subst (λ d. d < client_count) (sym s.client) s.low;
      }
  numbered past clients counted (x ∷ xs) (e ∷ es) right of (suc at) c client_step m is submits =
      let next : ℕ → ClientState Command = put clients x.0 (client_after f x.0 answer (clients x.0) x.1.action) in
      let counts : (d : ℕ) → Counts (clients d) (next d) (is_start_of d e) (is_submission_of d e) =
      λ d. subst (λ (y : WorldEvent). Counts (clients d) (next d) (is_start_of d y) (is_submission_of d y)) (sym of.0.1) (step_counts clients d x.0 x.1.action of.0.0) in
      let n = numbered (past ++ e ∷ []) next (λ d. one_more past (clients d) (next d) d e (counts d) (counted d)) xs es right.2 of.1 at c client_step m is submits in
      record {
        is = n.is;
        number = n.number ∙ ap (λ es. next_number m.client es) (append_assoc past (e ∷ []) (take at es));
        low = n.low;
      }
