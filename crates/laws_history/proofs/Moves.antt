-- One move is its events in the world.
use Rattle.std.proofs.Common.{◌≡◌, ℕ, ◌+◌, ◌^◌, ◌<◌, ◌&&◌, length, Bool, true, false, cond, eqb, not, List, [], ◌∷◌, ◌++◌, Option, Some, None, refl, sym, ap, ◌∙◌, subst, append-nil}
use Rattle.std.specs.Prelude.{is_some}
use Rattle.std.proofs.lemmas.Option.{slice_get_within}
use Rattle.std.proofs.lemmas.Bool.{lt-ltb}
use Rattle.vr_model.specs.Report.{outcome_unless_down, outcome_of_party, outcome_of_message, outcome_at, MayBeLost, Completes}
use Rattle.vr_model.specs.Logs.{Request}
use Rattle.vr_model.specs.Groups.{group_size, client_count}
use Rattle.vr_model.specs.Messages.{Body, Reply, Message}
use Rattle.vr_model.specs.Replicas.{is_down, ReplicaState, Outcome, put}
use Rattle.vr_model.specs.Rules.{keep}
use Rattle.vr_model.specs.World.{is_free, Event, Submit, Retry, ClientRestart, Timeout, Resend, Crash, StoreFail, refusal, if_none, steps, ClientState, World, Deliver, Restart, Completion, Done, Lost, becomes, ending_of, goes, does, if_up, comes, comes_to, comes_to_client, happens, run, Ending, Went, SaveFailed, Effect, effect}
use Rattle.laws_history.proofs.Tables.{put_same, put_other, put_cases}
use Rattle.vr_model.specs.Steps.{Input, Takes, TimesOut, Resends, Step, Acts, Crashes, ComesUp, LocalState, Matters, by_rule, acts, comes_up, effect_of, after, May, ClientAction, Submits, Retries, StartsAgain, Hears, heard, client_after, client_sends, MayClient}
use Rattle.vr_model.specs.Interleaving.{StepTakesSent, ActionTakesSent, event_at, step_events, action_event, submitted_in}

abbrev pub local_state_of : {C A : Type 0} → World C A → ℕ → LocalState C
local_state_of w i = record { replica = w.replicas i; store = w.stores i; used = w.used i }

abbrev pub IsReady : {C A : Type 0} → World C A → Type 0
IsReady w = (i : ℕ) → w.failing i ≡ None

-- from w on, the world came to v: these are its replicas and clients now, these messages were sent, and no store waits to fail
pub record Goes {C A : Type 0} (w v : World C A) (places : ℕ → LocalState C) (client_states : ℕ → ClientState C) (ms : List (Message C A)) (qs : List (Request C)) : Type 0 where
  pub locals : (i : ℕ) → local_state_of v i ≡ places i
  pub clients : (c : ℕ) → v.clients c ≡ client_states c
  pub sent : v.sent ≡ w.sent ++ ms
  pub submitted : v.submitted ≡ w.submitted ++ qs
  pub ready : IsReady v

-- the local_state that a effect_of leaves
abbrev pub local_state_at : {C A : Type 0} → Effect C A → (ℕ → Bool) → LocalState C
local_state_at t nonces = record { replica = t.replica; store = t.store; used = nonces }

abbrev pub StepGoes : {C A : Type 0} → World C A → World C A → ℕ → Effect C A → (ℕ → Bool) → Type 0
StepGoes w v i t nonces = Goes w v (put (local_state_of w) i (local_state_at t nonces)) w.clients t.sends []

becomes_goes : {C A : Type 0} (f i : ℕ) (answer : List C → A) (w : World C A) (t : Effect C A) (nonces : ℕ → Bool) (used : ℕ → ℕ → Bool) (failing : ℕ → Option Bool)
    → ((j : ℕ) → used j ≡ put w.used i nonces j) → ((j : ℕ) → failing j ≡ None)
    → StepGoes w (record (becomes f answer w i t.replica t.store t.sends) { used = used; failing = failing }) i t nonces
becomes_goes {C} {A} f i answer w t nonces used failing same ready = record {
  locals = λ j. ap (at j) (same j) ∙ go j (eqb j i);
  clients = λ c. refl;
  sent = refl;
  submitted = sym (append-nil w.submitted);
  ready = ready;
}
  where
    at : ℕ → (ℕ → Bool) → LocalState C
    at j u = record { replica = put w.replicas i t.replica j; store = put w.stores i t.store j; used = u }

    go : (j : ℕ) (b : Bool) → record { replica = cond b t.replica (w.replicas j); store = cond b t.store (w.stores j); used = cond b nonces (w.used j) } ≡ cond b (local_state_at t nonces) (local_state_of w j)
    go j true = refl
    go j false = refl

own_nonces : {C A : Type 0} (w : World C A) (i j : ℕ) → w.used j ≡ put w.used i (w.used i) j
own_nonces w i j = put_cases w.used i (w.used i) j (λ u. w.used j ≡ u) (λ e. ap w.used e) (λ ne. refl)

-- nothing happens
abbrev stay : {C A : Type 0} → World C A → ℕ → Effect C A
stay w i = record { replica = w.replicas i; store = w.stores i; sends = [] }

stay_goes : {C A : Type 0} (w : World C A) (i : ℕ) → IsReady w → StepGoes w w i (stay w i) (w.used i)
stay_goes w i ready = record {
  locals = λ j. put_cases (local_state_of w) i (local_state_of w i) j (λ n. local_state_of w j ≡ n) (λ e. ap (local_state_of w) e) (λ ne. refl);
  clients = λ c. refl;
  sent = sym (append-nil w.sent);
  submitted = sym (append-nil w.submitted);
  ready = ready;
}

does_went : {C A : Type 0} (f i : ℕ) (answer : List C → A) (w : World C A) (o : Outcome C A) (completion : Completion) → w.failing i ≡ None
    → does f answer w i o completion
    ≡ becomes f answer w i (effect (w.replicas i) (w.stores i) o (Went completion)).replica (effect (w.replicas i) (w.stores i) o (Went completion)).store (effect (w.replicas i) (w.stores i) o (Went completion)).sends
does_went {C} {A} f i answer w o completion e = ap (λ b. goes f answer w i o (ending_of completion o.saves b)) e ∙ go completion o.saves
  where
    go : (l : Completion) (s : Option ℕ) → goes f answer w i o (ending_of l s None)
        ≡ becomes f answer w i (effect (w.replicas i) (w.stores i) o (Went l)).replica (effect (w.replicas i) (w.stores i) o (Went l)).store (effect (w.replicas i) (w.stores i) o (Went l)).sends
    go Done None = refl
    go Done (Some u) = refl
    go (Lost false) s = refl
    go (Lost true) None = refl
    go (Lost true) (Some u) = refl

does_fails : {C A : Type 0} (f i : ℕ) (answer : List C → A) (w : World C A) (o : Outcome C A) (keeps_new : Bool) → w.failing i ≡ Some keeps_new → is_some o.saves ≡ true
    → does f answer w i o Done ≡ goes f answer w i o (SaveFailed keeps_new)
does_fails {C} {A} f i answer w o keeps_new e some = ap (λ b. goes f answer w i o (ending_of Done o.saves b)) e ∙ ap (goes f answer w i o) (go o.saves some)
  where
    go : (s : Option ℕ) → is_some s ≡ true → ending_of Done s (Some keeps_new) ≡ SaveFailed keeps_new
    go None n = absurd cc
    go (Some u) n = refl

free_is : {C : Type 0} (m : Option (Request C)) → m ≡ None → is_free m ≡ true
free_is m e = rw e refl

waits_is : {C : Type 0} (m : Option (Request C)) → is_some m ≡ true → not (is_free m) ≡ true
waits_is None e = absurd cc
waits_is (Some m) e = refl

-- the event has a step
abbrev pub HasStep : {C A : Type 0} → ℕ → World C A → Event C → Type 0
HasStep f w (Submit c command) = (c < client_count) × ((w.clients c).waits ≡ None) × ((w.clients c).sequence + 1 < 2 ^ 32)
HasStep f w (Retry c) = (c < client_count) × (is_some (w.clients c).waits ≡ true)
HasStep f w (ClientRestart c) = (c < client_count) × ((w.clients c).starts + 1 < 2 ^ 32)
HasStep f w (Deliver n) = n < length w.sent
HasStep f w (Timeout i) = i < group_size f
HasStep f w (Resend i) = i < group_size f
HasStep f w (Crash i) = i < group_size f
HasStep f w (Restart i x) = (i < group_size f) × (is_down (w.replicas i).status ≡ true) × (w.used i x ≡ false)
HasStep f w (StoreFail i keeps_new) = i < group_size f

-- each event has a step, and each loss is one that may be
abbrev pub HaveSteps : {C A : Type 0} → ℕ → (List C → A) → World C A → List (Event C × Completion) → Type 0
HaveSteps f answer w [] = Unit {0}
HaveSteps f answer w (e ∷ es) = HasStep f w e.0 × Completes f answer w e.0 e.1 × HaveSteps f answer (happens f answer w e.0 e.1) es

-- where an event has a step there is no reason against it
pub no_reason : {C A : Type 0} (f : ℕ) (answer : List C → A) (w : World C A) (e : Event C) → HasStep f w e → refusal f w e ≡ None
no_reason f answer w (Submit c command) h = rw (lt-ltb c client_count h.0, free_is (w.clients c).waits h.1, lt-ltb _ _ h.2) refl
no_reason f answer w (Retry c) h = rw (lt-ltb c client_count h.0, waits_is (w.clients c).waits h.1) refl
no_reason f answer w (ClientRestart c) h = rw (lt-ltb c client_count h.0, lt-ltb _ _ h.1) refl
no_reason f answer w (Deliver n) h = rw (lt-ltb _ _ h) refl
no_reason f answer w (Timeout i) h = rw (lt-ltb i (group_size f) h) refl
no_reason f answer w (Resend i) h = rw (lt-ltb i (group_size f) h) refl
no_reason f answer w (Crash i) h = rw (lt-ltb i (group_size f) h) refl
no_reason f answer w (Restart i x) h = rw (lt-ltb i (group_size f) h.0, h.2, h.1) refl
no_reason f answer w (StoreFail i keeps_new) h = rw (lt-ltb i (group_size f) h) refl

happens_steps : {C A : Type 0} (f : ℕ) (answer : List C → A) (w : World C A) (e : Event C) (completion : Completion) → HasStep f w e → happens f answer w e completion ≡ steps f answer w e completion
happens_steps f answer w e completion h = ap (λ r. if_none r (steps f answer w e completion) w) (no_reason f answer w e h)

input_has_step : {C A : Type 0} (f i : ℕ) (answer : List C → A) (w : World C A) (input : Input C A) (ending : Ending) (sends : List (Message C A)) (place : ℕ)
    → i < group_size f → StepTakesSent w.sent i (Acts input ending sends) place → HasStep f w (event_at i input place)
input_has_step f i answer w (Takes m) ending sends place l k = slice_get_within w.sent place m k.0
input_has_step f i answer w TimesOut ending sends place l k = l
input_has_step f i answer w Resends ending sends place l k = l

-- what is taken was sent: then the event is the input
input_steps : {C A : Type 0} (f i : ℕ) (answer : List C → A) (w : World C A) (input : Input C A) (ending : Ending) (sends : List (Message C A)) (place : ℕ) (completion : Completion)
    → StepTakesSent w.sent i (Acts input ending sends) place
    → steps f answer w (event_at i input place) completion ≡ if_up f answer w i (does f answer w i (by_rule f i answer (w.replicas i) input) completion)
input_steps f i answer w (Takes m) ending sends place completion k =
    ap (λ x. comes f answer w x completion) k.0 ∙ ap (λ p. comes_to f answer w p m.from m.body completion) k.1
input_steps f i answer w TimesOut ending sends place completion k = refl
input_steps f i answer w Resends ending sends place completion k = refl

input_happens : {C A : Type 0} (f i : ℕ) (answer : List C → A) (w : World C A) (input : Input C A) (ending : Ending) (sends : List (Message C A)) (place : ℕ) (completion : Completion)
    → i < group_size f → StepTakesSent w.sent i (Acts input ending sends) place
    → happens f answer w (event_at i input place) completion ≡ if_up f answer w i (does f answer w i (by_rule f i answer (w.replicas i) input) completion)
input_happens f i answer w input ending sends place completion l k =
    happens_steps f answer w (event_at i input place) completion (input_has_step f i answer w input ending sends place l k) ∙ input_steps f i answer w input ending sends place completion k

when_up : {C A : Type 0} (f i : ℕ) (answer : List C → A) (w v : World C A) → i < group_size f → is_down (w.replicas i).status ≡ false → if_up f answer w i v ≡ v
when_up f i answer w v l e = rw (e, lt-ltb i (group_size f) l) refl

when_down : {C A : Type 0} (f i : ℕ) (answer : List C → A) (w v : World C A) → is_down (w.replicas i).status ≡ true → if_up f answer w i v ≡ w
when_down f i answer w v e = rw e refl

down_stays : {C A : Type 0} (f i : ℕ) (answer : List C → A) (w : World C A) (completion : Completion) → effect (w.replicas i) (w.stores i) (keep f i answer (w.replicas i)) (Went completion) ≡ stay w i
down_stays f i answer w Done = refl
down_stays f i answer w (Lost true) = refl
down_stays f i answer w (Lost false) = refl

acts_down : {C A : Type 0} (f i : ℕ) (answer : List C → A) (r : ReplicaState C) (input : Input C A) → is_down r.status ≡ true → acts f i answer r input ≡ keep f i answer r
acts_down f i answer r input e = rw e refl

acts_up : {C A : Type 0} (f i : ℕ) (answer : List C → A) (r : ReplicaState C) (input : Input C A) → is_down r.status ≡ false → acts f i answer r input ≡ by_rule f i answer r input
acts_up f i answer r input e = rw e refl

no_save : (a b : Bool) → (a && (b && false)) ≡ false
no_save true true = refl
no_save true false = refl
no_save false b = refl

-- the outcome of an event is that of the input
input_outcome : {C A : Type 0} (f i : ℕ) (answer : List C → A) (w : World C A) (input : Input C A) (ending : Ending) (sends : List (Message C A)) (place : ℕ)
    → StepTakesSent w.sent i (Acts input ending sends) place → outcome_at f answer w (event_at i input place) ≡ outcome_unless_down w i (by_rule f i answer (w.replicas i) input)
input_outcome f i answer w (Takes m) ending sends place k = ap (outcome_of_message f answer w) k.0 ∙ ap (λ p. outcome_of_party f answer w p m) k.1
input_outcome f i answer w TimesOut ending sends place k = refl
input_outcome f i answer w Resends ending sends place k = refl

outcome_up : {C A : Type 0} (w : World C A) (i : ℕ) (o : Outcome C A) → is_down (w.replicas i).status ≡ false → outcome_unless_down w i o ≡ Some (i, o)
outcome_up w i o e = rw e refl

-- what is lost may be lost
input_lost : {C A : Type 0} (f i : ℕ) (answer : List C → A) (w : World C A) (input : Input C A) (saved : Bool) (sends : List (Message C A)) (place : ℕ) → IsReady w
    → Matters (w.replicas i) (acts f i answer (w.replicas i) input) → StepTakesSent w.sent i (Acts input (Went (Lost saved)) sends) place → MayBeLost f answer w (event_at i input place) saved
input_lost {C} {A} f i answer w input saved sends place ready may k = go (is_down (w.replicas i).status) refl
  where
    go : (b : Bool) → is_down (w.replicas i).status ≡ b → MayBeLost f answer w (event_at i input place) saved
    go true e = let same = acts_down f i answer (w.replicas i) input e in absurd (may (ap (λ (o : Outcome C A). o.replica) same) (ap (λ (o : Outcome C A). o.sends) same))
    go false e = let o : Outcome C A = by_rule f i answer (w.replicas i) input in record {
      replica = i;
      outcome = o;
      outcome_is = input_outcome f i answer w input (Went (Lost saved)) sends place k ∙ outcome_up w i o e;
      changes = subst (Matters (w.replicas i)) (acts_up f i answer (w.replicas i) input e) may;
      saves = ap (λ x. saved && (is_some o.saves && is_some x)) (ready i) ∙ no_save saved (is_some o.saves);
    }

input_goes : {C A : Type 0} (f i : ℕ) (answer : List C → A) (w : World C A) (input : Input C A) (completion : Completion) (sends : List (Message C A)) (place : ℕ) → IsReady w
    → May f i answer (local_state_of w i) (Acts input (Went completion) sends) → StepTakesSent w.sent i (Acts input (Went completion) sends) place → Completes f answer w (event_at i input place) completion
input_goes f i answer w input Done sends place ready may k = tt
input_goes f i answer w input (Lost saved) sends place ready may k = input_lost f i answer w input saved sends place ready may k

-- what a step of a replica does in the world
went_goes : {C A : Type 0} (f i : ℕ) (answer : List C → A) (w : World C A) (input : Input C A) (completion : Completion) (sends : List (Message C A)) (place : ℕ)
    → i < group_size f → IsReady w → StepTakesSent w.sent i (Acts input (Went completion) sends) place
    → StepGoes w (happens f answer w (event_at i input place) completion) i (effect_of f i answer (local_state_of w i) (Acts input (Went completion) sends)) (w.used i)
went_goes {C} {A} f i answer w input completion sends place l ready k = go (is_down (w.replicas i).status) refl
  where
    is : happens f answer w (event_at i input place) completion ≡ if_up f answer w i (does f answer w i (by_rule f i answer (w.replicas i) input) completion)
    is = input_happens f i answer w input (Went completion) sends place completion l k

    go : (b : Bool) → is_down (w.replicas i).status ≡ b
        → StepGoes w (happens f answer w (event_at i input place) completion) i (effect (w.replicas i) (w.stores i) (acts f i answer (w.replicas i) input) (Went completion)) (w.used i)
    go true e =
        subst (λ v. StepGoes w v i (effect (w.replicas i) (w.stores i) (acts f i answer (w.replicas i) input) (Went completion)) (w.used i)) (sym (is ∙ when_down f i answer w _ e))
        (subst (λ t. StepGoes w w i t (w.used i)) (sym (ap (λ o. effect (w.replicas i) (w.stores i) o (Went completion)) (acts_down f i answer (w.replicas i) input e) ∙ down_stays f i answer w completion))
        (stay_goes w i ready))
    go false e =
        let o : Outcome C A = by_rule f i answer (w.replicas i) input in
        let t : Effect C A = effect (w.replicas i) (w.stores i) o (Went completion) in
        subst (λ v. StepGoes w v i (effect (w.replicas i) (w.stores i) (acts f i answer (w.replicas i) input) (Went completion)) (w.used i))
        (sym (is ∙ when_up f i answer w _ l e ∙ does_went f i answer w o completion (ready i)))
        (subst (λ x. StepGoes w (becomes f answer w i t.replica t.store t.sends) i (effect (w.replicas i) (w.stores i) x (Went completion)) (w.used i)) (sym (acts_up f i answer (w.replicas i) input e))
        (becomes_goes f i answer w t (w.used i) w.used w.failing (own_nonces w i) ready))

-- the world in which i's next save fails
abbrev to_fail : {C A : Type 0} → World C A → ℕ → Bool → World C A
to_fail w i keeps_new = record w { failing = put w.failing i (Some keeps_new) }

failed_goes : {C A : Type 0} (f i : ℕ) (answer : List C → A) (w : World C A) (input : Input C A) (keeps_new : Bool) (sends : List (Message C A)) (place : ℕ)
    → i < group_size f → IsReady w → is_some (acts f i answer (w.replicas i) input).saves ≡ true → StepTakesSent w.sent i (Acts input (SaveFailed keeps_new) sends) place
    → StepGoes w (happens f answer (to_fail w i keeps_new) (event_at i input place) Done) i (effect_of f i answer (local_state_of w i) (Acts input (SaveFailed keeps_new) sends)) (w.used i)
failed_goes {C} {A} f i answer w input keeps_new sends place l ready some k = go (is_down (w.replicas i).status) refl
  where
    is : happens f answer (to_fail w i keeps_new) (event_at i input place) Done ≡ if_up f answer (to_fail w i keeps_new) i (does f answer (to_fail w i keeps_new) i (by_rule f i answer (w.replicas i) input) Done)
    is = input_happens f i answer (to_fail w i keeps_new) input (SaveFailed keeps_new) sends place Done l k

    free : (j : ℕ) → put (put w.failing i (Some keeps_new)) i None j ≡ None
    free j = put_cases (put w.failing i (Some keeps_new)) i None j (λ x. x ≡ None) (λ e. refl) (λ ne. put_other w.failing i (Some keeps_new) j ne ∙ ready j)

    go : (b : Bool) → is_down (w.replicas i).status ≡ b
        → StepGoes w (happens f answer (to_fail w i keeps_new) (event_at i input place) Done) i (effect (w.replicas i) (w.stores i) (acts f i answer (w.replicas i) input) (SaveFailed keeps_new)) (w.used i)
    go true e = absurd (let c : false ≡ true = ap (λ (o : Outcome C A). is_some o.saves) (sym (acts_down f i answer (w.replicas i) input e)) ∙ some in cc)
    go false e =
        let o : Outcome C A = by_rule f i answer (w.replicas i) input in
        let t : Effect C A = effect (w.replicas i) (w.stores i) o (SaveFailed keeps_new) in
        let same = acts_up f i answer (w.replicas i) input e in
        subst (λ v. StepGoes w v i (effect (w.replicas i) (w.stores i) (acts f i answer (w.replicas i) input) (SaveFailed keeps_new)) (w.used i))
        (sym (is ∙ when_up f i answer (to_fail w i keeps_new) _ l e
        ∙ does_fails f i answer (to_fail w i keeps_new) o keeps_new (put_same w.failing i (Some keeps_new) i refl) (ap (λ (o : Outcome C A). is_some o.saves) (sym same) ∙ some)))
        (subst (λ x. StepGoes w (goes f answer (to_fail w i keeps_new) i o (SaveFailed keeps_new)) i (effect (w.replicas i) (w.stores i) x (SaveFailed keeps_new)) (w.used i)) (sym same)
        (becomes_goes f i answer w t (w.used i) w.used (put (put w.failing i (Some keeps_new)) i None) (own_nonces w i) free))

restart_goes : {C A : Type 0} (f i : ℕ) (answer : List C → A) (w : World C A) (x : ℕ) (completion : Completion) (sends : List (Message C A))
    → i < group_size f → IsReady w → is_down (w.replicas i).status ≡ true → w.used i x ≡ false
    → StepGoes w (happens f answer w (Restart i x) completion) i (effect_of f i answer (local_state_of w i) (ComesUp x completion sends)) (put (w.used i) x true)
restart_goes {C} {A} f i answer w x completion sends l ready d u =
    let v : World C A = record w { used = put w.used i (put (w.used i) x true) } in
    let o : Outcome C A = comes_up f i answer (local_state_of w i) x in
    let t : Effect C A = effect (w.replicas i) (w.stores i) o (Went completion) in
    let is : happens f answer w (Restart i x) completion ≡ does f answer v i o completion = happens_steps f answer w (Restart i x) completion (l, d, u) in
    subst (λ z. StepGoes w z i t (put (w.used i) x true)) (sym (is ∙ does_went f i answer v o completion (ready i)))
    (becomes_goes f i answer w t (put (w.used i) x true) (put w.used i (put (w.used i) x true)) w.failing (λ j. refl) ready)

restart_so : {C A : Type 0} (f i : ℕ) (answer : List C → A) (w : World C A) (x : ℕ) (completion : Completion) → IsReady w → is_down (w.replicas i).status ≡ true → Completes f answer w (Restart i x) completion
restart_so f i answer w x Done ready d = tt
restart_so {C} {A} f i answer w x (Lost saved) ready d = record {
  replica = i;
  outcome = comes_up f i answer (local_state_of w i) x;
  outcome_is = refl;
  changes = λ e n. absurd (let c : false ≡ true = ap (λ (r : ReplicaState C). is_down r.status) e ∙ d in cc);
  saves = ap (λ y. saved && (false && is_some y)) (ready i) ∙ no_save saved false;
}

-- a step of a replica is its events in the world
pub step_goes : {C A : Type 0} (f i : ℕ) (answer : List C → A) (w : World C A) (s : Step C A) (place : ℕ)
    → i < group_size f → IsReady w → May f i answer (local_state_of w i) s → StepTakesSent w.sent i s place
    → HaveSteps f answer w (step_events i s place) × Goes w (run f answer (step_events i s place) w) (put (local_state_of w) i (after f i answer (local_state_of w i) s)) w.clients (effect_of f i answer (local_state_of w i) s).sends []
step_goes f i answer w (Acts input (Went completion) sends) place l ready may k =
    ((input_has_step f i answer w input (Went completion) sends place l k, input_goes f i answer w input completion sends place ready may k, tt), went_goes f i answer w input completion sends place l ready k)
step_goes {C} {A} f i answer w (Acts input (SaveFailed keeps_new) sends) place l ready may k =
    subst (λ v. (HasStep f w (StoreFail i keeps_new) × Unit {0} × HaveSteps f answer v ((event_at i input place, Done) ∷ []))
    × Goes w (happens f answer v (event_at i input place) Done) (put (local_state_of w) i (after f i answer (local_state_of w i) (Acts input (SaveFailed keeps_new) sends))) w.clients (effect_of f i answer (local_state_of w i) (Acts input (SaveFailed keeps_new) sends)).sends [])
    (sym (happens_steps f answer w (StoreFail i keeps_new) Done l))
    ((l, tt, (input_has_step f i answer (to_fail w i keeps_new) input (SaveFailed keeps_new) sends place l k, tt, tt)), failed_goes f i answer w input keeps_new sends place l ready may k)
step_goes {C} {A} f i answer w Crashes place l ready may k =
    let s : Step C A = Crashes in (
      (l, tt, tt),
      subst (λ v. Goes w v (put (local_state_of w) i (after f i answer (local_state_of w i) s)) w.clients [] []) (sym (happens_steps f answer w (Crash i) Done l))
          (becomes_goes f i answer w (effect_of f i answer (local_state_of w i) Crashes) (w.used i) w.used w.failing (own_nonces w i) ready),
    )
step_goes f i answer w (ComesUp x completion sends) place l ready may k =
    (((l, may.0, may.1), restart_so f i answer w x completion ready may.0, tt), restart_goes f i answer w x completion sends l ready may.0 may.1)

own_place : {C A : Type 0} (w : World C A) (c d : ℕ) → w.clients d ≡ put w.clients c (w.clients c) d
own_place w c d = put_cases w.clients c (w.clients c) d (λ k. w.clients d ≡ k) (λ e. ap w.clients e) (λ ne. refl)

heard_goes : {C A : Type 0} (f c : ℕ) (answer : List C → A) (w : World C A) (b : Body C A) → IsReady w
    → Goes w (comes_to_client f answer w c b) (local_state_of w) (put w.clients c (heard f c answer (w.clients c) b)) [] []
heard_goes f c answer w (Reply v number a) ready = record { locals = λ i. refl; clients = λ d. refl; sent = sym (append-nil w.sent); submitted = sym (append-nil w.submitted); ready = ready }
heard_goes f c answer w _ ready = record { locals = λ i. refl; clients = λ d. own_place w c d; sent = sym (append-nil w.sent); submitted = sym (append-nil w.submitted); ready = ready }

-- and so is a client's
pub action_goes : {C A : Type 0} (f c : ℕ) (answer : List C → A) (w : World C A) (e : ClientAction C A) (place : ℕ)
    → IsReady w → MayClient f c answer (w.clients c) e → ActionTakesSent w.sent c e place
    → HasStep f w (action_event c e place)
    × Goes w (happens f answer w (action_event c e place) Done) (local_state_of w) (put w.clients c (client_after f c answer (w.clients c) e)) (client_sends f c answer (w.clients c) e) (submitted_in e (client_sends f c answer (w.clients c) e))
action_goes f c answer w (Submits command) place ready may k = (
  may,
  subst (λ v. Goes w v (local_state_of w) (put w.clients c (client_after f c answer (w.clients c) (Submits command))) (client_sends f c answer (w.clients c) (Submits command)) (submitted_in (Submits command) (client_sends f c answer (w.clients c) (Submits command))))
      (sym (happens_steps f answer w (Submit c command) Done may))
      (record { locals = λ i. refl; clients = λ d. refl; sent = refl; submitted = refl; ready = ready }),
)
action_goes f c answer w Retries place ready may k = (
  may,
  subst (λ v. Goes w v (local_state_of w) (put w.clients c (w.clients c)) (client_sends f c answer (w.clients c) Retries) []) (sym (happens_steps f answer w (Retry c) Done may))
      (record { locals = λ i. refl; clients = λ d. own_place w c d; sent = refl; submitted = sym (append-nil w.submitted); ready = ready }),
)
action_goes f c answer w StartsAgain place ready may k = (
  may,
  subst (λ v. Goes w v (local_state_of w) (put w.clients c (client_after f c answer (w.clients c) StartsAgain)) [] []) (sym (happens_steps f answer w (ClientRestart c) Done may))
      (record { locals = λ i. refl; clients = λ d. refl; sent = sym (append-nil w.sent); submitted = sym (append-nil w.submitted); ready = ready }),
)
action_goes f c answer w (Hears m) place ready may k =
    let within = slice_get_within w.sent place m k.0 in
    let is : happens f answer w (Deliver place) Done ≡ comes_to_client f answer w c m.body = happens_steps f answer w (Deliver place) Done within ∙ ap (λ x. comes f answer w x Done) k.0 ∙ ap (λ p. comes_to f answer w p m.from m.body Done) k.1 in
    (within, subst (λ v. Goes w v (local_state_of w) (put w.clients c (heard f c answer (w.clients c) m.body)) [] []) (sym is) (heard_goes f c answer w m.body ready))
