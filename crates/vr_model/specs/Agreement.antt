-- One history: what holds of every run.
use Rattle.std.specs.Prelude.{◌≡◌, ℕ, ◌<◌, ◌≤◌, ◌⊎◌, ◌++◌, List, length, take, drop, true, false, Some, slice_get}
use Rattle.vr_model.specs.Logs.{Request, IsPrefix, IsEntry, IsRising, IsFrom, IsAmong}
use Rattle.vr_model.specs.Messages.{Message, Party, Replica, Body, NewState}
use Rattle.vr_model.specs.Replicas.{is_normal, is_down, takes_part, ReplicaState}
use Rattle.vr_model.specs.Rules.{receives}
use Rattle.vr_model.specs.World.{World, Event, Completion, executed, happens, run, start, given}
use Rattle.vr_model.specs.Report.{IsAnswered, ReplyStands, Release, report, before, Each}
use Rattle.vr_model.specs.Views.{IsStarted, SentDoViewChange, IsAcknowledged, CouldBeCommitted, WasLogOf, world}

-- the committed list at the end of a run
abbrev pub committed : {C A : Type 0} → ℕ → (List C → A) → List (Event C × Completion) → List (Request C)
committed f answer events = (world f answer events).order

-- One list for every schedule, and the views that keep it.
pub record OneHistory {C A : Type 0} (f : ℕ) (answer : List C → A)
    (early late : List (Event C × Completion)) : Type 0 where
  -- the committed list grows and is never revised: it is a prefix of each later one
  pub grows : IsPrefix (committed f answer early) (committed f answer (early ++ late))
  -- some replica has executed it by then
  pub was_executed : (moment : ℕ) × (i : ℕ)
      × (executed ((before f answer early moment).replicas i) ≡ committed f answer early)
  -- whatever a replica has executed by then is a prefix of it
  pub executed : (moment i : ℕ)
      → IsPrefix (executed ((before f answer early moment).replicas i)) (committed f answer early)
  -- no pair of client and number stands in it twice
  pub once : (p q : ℕ) (m n : Request C) → IsEntry (committed f answer early) p m
      → IsEntry (committed f answer early) q n → m.client ≡ n.client → m.number ≡ n.number → p ≡ q
  -- each client's numbers rise in it
  pub rising : IsRising (committed f answer early)
  -- it has only requests that were submitted by then
  pub submitted : IsFrom (world f answer early).submitted (committed f answer early)
  -- of which each client's numbers rise, so no pair of client and number was submitted twice
  pub submitted_rising : IsRising (world f answer early).submitted
  -- and none with a number that its client has yet to give
  pub numbers : (m : Request C) → IsAmong (world f answer early).submitted m
      → m.number ≤ given ((world f answer early).clients m.client)
  -- every reply that was sent has the answer of the commands up to its request's place in it
  pub answered : (n : ℕ) (m : Message C A) → slice_get (world f answer early).sent n ≡ Some m
      → ReplyStands answer (committed f answer early) m
  -- and so has every release
  pub released : Each (λ (r : Release A). IsAnswered answer (committed f answer early) r.client r.number r.answer)
      (report f answer early).releases
  -- what f+1 replicas accepted of a view's log, or could yet accept, is a prefix of the first log of every later
  -- view that was started
  pub carried : (later view : ℕ) (log : List (Request C)) → view < later
      → (s : IsStarted (world f answer early).sent later) → CouldBeCommitted f answer early view log
      → IsPrefix log s.first_log
  -- a view has one first log
  pub one_first : (view : ℕ) (s t : IsStarted (world f answer early).sent view) → s.first_log ≡ t.first_log
  -- a replica that is normal in a view above 0 has a log that goes on from the first of a view that was started
  pub started : (i : ℕ) → 0 < f → is_normal ((world f answer early).replicas i).status ≡ true
      → 0 < ((world f answer early).replicas i).view
      → (s : IsStarted (world f answer early).sent ((world f answer early).replicas i).view)
      × IsPrefix s.first_log ((world f answer early).replicas i).log

-- What a replica has said, it keeps, also over crashes: this is what carries the one history.
pub record PromisesKept {C A : Type 0} (f : ℕ) (answer : List C → A)
    (events : List (Event C × Completion)) : Type 0 where
  -- who sent a DOVIEWCHANGE of a later view takes part in this one no more
  pub left : (i view : ℕ) → SentDoViewChange (world f answer events).sent i view
      → takes_part ((world f answer events).replicas i).status ≡ true → view < ((world f answer events).replicas i).view
  -- its store keeps a later one
  pub stored : (i view : ℕ) → SentDoViewChange (world f answer events).sent i view
      → view < (world f answer events).stores i
  -- and who is normal in a view, if only since it recovered, holds all that it ever acknowledged there
  pub reaches : (i reach : ℕ) → is_normal ((world f answer events).replicas i).status ≡ true
      → IsAcknowledged (world f answer events).sent i ((world f answer events).replicas i).view reach
      → reach ≤ length ((world f answer events).replicas i).log

-- What a rule may presuppose of the log that it makes holds in every run: it begins with all that the replica has
-- executed.
abbrev pub RulesKeepExecuted : {C A : Type 0} → ℕ → (List C → A) → List (Event C × Completion) → Type 0
RulesKeepExecuted {C} {A} f answer events =
    (i n : ℕ) (m : Message C A) → is_down ((run f answer events (start {C = C} {A = A})).replicas i).status ≡ false
    → slice_get (run f answer events (start {C = C} {A = A})).sent n ≡ Some m → m.to ≡ Replica i
    → IsPrefix (executed ((run f answer events (start {C = C} {A = A})).replicas i))
    (receives f i answer ((run f answer events (start {C = C} {A = A})).replicas i) m.from m.body).replica.log

-- A NEWSTATE hands a whole log on. Say that one was sent to a replica that is up, with the entries past its op number
-- of a log that some replica had when it was normal in its view. Its rule leaves the receiver as it was, or with that
-- whole log.
abbrev pub NewStatesHandLogsOn : {C A : Type 0} → ℕ → (List C → A) → List (Event C × Completion) → Type 0
NewStatesHandLogsOn {C} {A} f answer events =
    (i n view op_number commit_number : ℕ) (from : Party) (whole : List (Request C))
    → let now : World C A = world f answer events in
    let new_state : Body C A = NewState view op_number commit_number (drop op_number whole) in
    let after : ReplicaState C = (receives f i answer (now.replicas i) from new_state).replica in
    is_down (now.replicas i).status ≡ false
    → slice_get now.sent n ≡ Some (record { from = from; to = Replica i; body = new_state })
    → op_number ≤ length whole
    → WasLogOf f answer events view whole
    → (after ≡ now.replicas i) ⊎ (after.log ≡ whole)

-- What an event adds to the committed list stood before in the log of the replica that commits it.
pub record CommitsWhatItHad {C A : Type 0} (f : ℕ) (answer : List C → A)
    (events : List (Event C × Completion)) : Type 0 where
  -- no replica has executed more than the committed list
  pub within : (i : ℕ) → ((world f answer events).replicas i).commit_number ≤ length (world f answer events).order
  -- where one has executed more after the next event, the list is then as much of the log that this replica has now
  pub had : (e : Event C) (completion : Completion) (i : ℕ)
      → let now : World C A = world f answer events in
      let next : World C A = happens f answer now e completion in
      length now.order < (next.replicas i).commit_number
      → next.order ≡ take (next.replicas i).commit_number (now.replicas i).log
