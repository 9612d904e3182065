-- When the world that the code keeps is a world of the definitions.
use Rattle.std.specs.Prelude.{◌≡◌, ℕ, ◌<◌, ◌≤◌, ◌⊎◌, List, [], ◌∷◌, ◌++◌, length, take, drop, map, replicate, Some}
use Rattle.std.specs.Prelude.{None, Result, MatchResult, true, false}
use Rattle.std.specs.List.{slice_get}
use Rattle.std.specs.Ordering.{nat_cmp}
use Rattle.std.specs.BTreeSet.{contains}
use Rattle.il_model.specs.declared.command.Command.{Command}
use Rattle.il_model.specs.declared.command.Answer.{Answer}
use Rattle.il_model.specs.Snapshots.{SavedController}
use Rattle.il_model.specs.Program.{Program}
use Rattle.vr_model.specs.declared.event.Event as taken
use Rattle.vr_model.specs.declared.config.Config.{Config}
use Rattle.vr_model.specs.Logs.{Request, IsPrefix}
use Rattle.vr_model.specs.Groups.{group_size, client_count}
use Rattle.vr_model.specs.Replicas.{ReplicaState, Outcome, is_down, is_normal}
use Rattle.vr_model.specs.World.{World, Event, Completion, executed, does, comes_to_client, happens, refusal}
use Rattle.vr_model.specs.Messages.{Message, Party, Client as ToClient, Replica as ToReplica, Reply, NewState}
use Rattle.vr_model.specs.Rules.{receives}
use Rattle.vr_model.specs.Views.{WasLogOf}
use Rattle.vr_model.specs.Report.{Release, released, released_to, lost_at, Completes}
use Rattle.vr_model.specs.StandsFor.{requests_of}
use Rattle.vr_schedules.specs.declared.world.World as code
use Rattle.vr_schedules.specs.declared.world.Node.{Node}
use Rattle.vr_schedules.specs.declared.client.Client.{Client}
use Rattle.vr_schedules.specs.declared.trace.Release as told
use Rattle.vr_schedules.specs.declared.fault.EventFault.{EventFault}
use Rattle.vr_schedules.specs.declared.fault.EventFault.TheVariants.{Memory}
use Rattle.vr_model.specs.Membership.{Group, Membership, member}
use Rattle.vr_schedules.specs.Members.{Taken, by_rules, IsTaken, KeepsExecuted, FitsTaken, MayEnd, failing_of}
use Rattle.vr_schedules.specs.Handed.{AllStandIn}
use Rattle.vr_schedules.specs.Clients.{client_of, fresh_client}
use Rattle.vr_schedules.specs.Events.{IsReason}

abbrev pub release_of : told.Release → Release Answer
release_of r = record { event = r.event; client = r.client.number; number = r.number; answer = r.answer }

abbrev pub releases_of : List told.Release → List (Release Answer)
releases_of rs = map release_of rs

-- a node before the first event
abbrev pub first_node : {M : Type 0} → M → Node M
first_node m = record { member = m; store = record { view = 0; failing = None }; used = record { keys = [] } }

-- the code's world before the first event
pub record IsFirst {M : Type 0} (group : Config) (members : List M) (s : code.World M) : Type 0 where
  pub config : s.config ≡ group
  pub nodes : s.nodes.items ≡ map first_node members
  pub clients : s.clients ≡ replicate client_count fresh_client
  pub releases : s.trace.releases.items ≡ []
  pub order : s.trace.order.items ≡ []
  pub lengths : s.trace.lengths.items ≡ []
  pub sent : s.trace.sent.items ≡ []
  pub lost : s.trace.lost.items ≡ []

module _ {M : Type 0} (StandsFor : M → Membership → ReplicaState Command → Type 0) (g : Group) where
  -- the node is replica i of this world, with its store and the nonces that it has used
  pub record NodeShows (i : ℕ) (n : Node M) (w : World Command Answer) : Type 0 where
    pub replica : StandsFor n.member (member g i) (w.replicas i)
    pub store : w.stores i ≡ n.store.view
    pub failing : w.failing i ≡ failing_of n.store
    pub used : (x : ℕ) → w.used i x ≡ contains nat_cmp n.used x

module _ (IsSavedAs : Program → ℕ → List Command → SavedController → Type 0) {M : Type 0}
    (StandsFor : M → Membership → ReplicaState Command → Type 0) (g : Group)
    (past : List (Event Command × Completion)) where
  -- these are the replicas, the clients, the messages and the committed list of this world
  pub record Shows (s : code.World M) (w : World Command Answer) : Type 0 where
    pub config : s.config.f ≡ g.f
    pub size : length s.nodes.items ≡ group_size g.f
    pub nodes : (i : ℕ) (n : Node M) → slice_get s.nodes.items i ≡ Some n → NodeShows StandsFor g i n w
    pub count : length s.clients ≡ client_count
    pub clients : (c : ℕ) (k : Client) → slice_get s.clients c ≡ Some k → w.clients c ≡ client_of k
    pub sent : AllStandIn IsSavedAs g past s.trace.sent.items w.sent
    pub order : w.order ≡ requests_of s.trace.order.items

module _ (g : Group) (past : List (Event Command × Completion)) where
  -- From w to v, which is the world after these events: the committed list grows, by what the replica that commits it
  -- had in its log before; and who is normal now has a log that some replica had.
  pub record Leads (later : List (Event Command × Completion)) (w v : World Command Answer) : Type 0 where
    pub grows : IsPrefix w.order v.order
    pub had : (i : ℕ) → length w.order < (v.replicas i).commit_number
        → v.order ≡ take (v.replicas i).commit_number (w.replicas i).log
    pub was : (i : ℕ) → is_normal (v.replicas i).status ≡ true
        → WasLogOf g.f g.answer later (v.replicas i).view (v.replicas i).log
    pub still : (view : ℕ) (log : List (Request Command)) → WasLogOf g.f g.answer past view log
        → WasLogOf g.f g.answer later view log

  -- what is known of the world after the events so far, and after whatever happens next
  pub record IsSettled (w : World Command Answer) : Type 0 where
    pub leads : (e : Event Command) (c : Completion) → Leads (past ++ (e, c) ∷ []) w (happens g.f g.answer w e c)
    -- what any replica has executed is a prefix of the committed list
    pub agreed : (i : ℕ) → IsPrefix (executed (w.replicas i)) w.order
    pub within : (i : ℕ) → (w.replicas i).commit_number ≤ length w.order
    -- and the log that the rules make of a message that was sent begins with it
    pub keeps : (i n : ℕ) (m : Message Command Answer) → is_down (w.replicas i).status ≡ false
        → slice_get w.sent n ≡ Some m → m.to ≡ ToReplica i
        → IsPrefix (executed (w.replicas i)) (receives g.f i g.answer (w.replicas i) m.from m.body).replica.log
    -- and is, for a NEWSTATE, the log from which that was sent
    pub hands_on : (i n view op_number commit_number : ℕ) (from : Party) (whole : List (Request Command))
        → is_down (w.replicas i).status ≡ false
        → slice_get w.sent n ≡ Some
        (record {
          from = from;
          to = ToReplica i;
          body = NewState view op_number commit_number (drop op_number whole);
        })
        → op_number ≤ length whole → WasLogOf g.f g.answer past view whole
        → ((receives g.f i g.answer (w.replicas i) from
        (NewState view op_number commit_number (drop op_number whole))).replica ≡ w.replicas i)
        ⊎ ((receives g.f i g.answer (w.replicas i) from
        (NewState view op_number commit_number (drop op_number whole))).replica.log ≡ whole)

module _ (IsSavedAs : Program → ℕ → List Command → SavedController → Type 0) {M : Type 0}
    (StandsFor : M → Membership → ReplicaState Command → Type 0) (g : Group)
    (past : List (Event Command × Completion)) where
  -- the event happened, and was done or lost
  pub record Happened (old new : code.World M) (w : World Command Answer) (e : Event Command) : Type 0 where
    pub completion : Completion
    pub has_step : refusal g.f w e ≡ None
    pub complete : Completes g.f g.answer w e completion
    pub shows : Shows IsSavedAs StandsFor g (past ++ (e, completion) ∷ []) new (happens g.f g.answer w e completion)
    pub releases : releases_of new.trace.releases.items ≡ releases_of old.trace.releases.items
        ++ released (length old.trace.lengths.items) w e
    pub lengths : new.trace.lengths.items ≡ old.trace.lengths.items
    pub lost : new.trace.lost.items ≡ old.trace.lost.items ++ lost_at (length old.trace.lengths.items) completion

  -- replica i did what its rules give for what it took up, or lost it
  pub record Acted (later : Completion → List (Event Command × Completion)) (old new : code.World M)
      (w : World Command Answer) (i : ℕ) (o : Outcome Command Answer) : Type 0 where
    pub completion : Completion
    pub may : MayEnd (w.replicas i) o (w.failing i) completion
    pub shows : Shows IsSavedAs StandsFor g (later completion) new (does g.f g.answer w i o completion)
    pub releases : new.trace.releases.items ≡ old.trace.releases.items
    pub lengths : new.trace.lengths.items ≡ old.trace.lengths.items
    pub lost : new.trace.lost.items ≡ old.trace.lost.items ++ lost_at (length old.trace.lengths.items) completion

  -- the event happened, and was done or lost, and the length of the committed list after it is noted
  pub record HappenedOn (old new : code.World M) (w : World Command Answer) (e : Event Command) : Type 0 where
    pub completion : Completion
    pub has_step : refusal g.f w e ≡ None
    pub complete : Completes g.f g.answer w e completion
    pub shows : Shows IsSavedAs StandsFor g (past ++ (e, completion) ∷ []) new (happens g.f g.answer w e completion)
    pub releases : releases_of new.trace.releases.items ≡ releases_of old.trace.releases.items
        ++ released (length old.trace.lengths.items) w e
    pub lengths : new.trace.lengths.items ≡ old.trace.lengths.items
        ++ length (happens g.f g.answer w e completion).order ∷ []
    pub lost : new.trace.lost.items ≡ old.trace.lost.items ++ lost_at (length old.trace.lengths.items) completion

  -- this reply came to this client, and was released if it waited for it
  pub record CameToClient (old new : code.World M) (w : World Command Answer) (c view number : ℕ)
      (a : Answer) : Type 0 where
    pub shows : Shows IsSavedAs StandsFor g past new (comes_to_client g.f g.answer w c (Reply view number a))
    pub releases : releases_of new.trace.releases.items ≡ releases_of old.trace.releases.items
        ++ released_to (length old.trace.lengths.items) w (ToClient c) (Reply view number a)
    pub lengths : new.trace.lengths.items ≡ old.trace.lengths.items
    pub lost : new.trace.lost.items ≡ old.trace.lost.items

-- From whatever world it was, the event happened, or has no step there.
pub record Went (IsSavedAs : Program → ℕ → List Command → SavedController → Type 0) {M : Type 0}
    (StandsFor : M → Membership → ReplicaState Command → Type 0) (old new : code.World M) (e : Event Command)
    (result : Result (Unit {0}) EventFault) : Type 0 where
  pub went : (g : Group) (past : List (Event Command × Completion)) (w : World Command Answer)
      → Shows IsSavedAs StandsFor g past old w → IsSettled g past w
      → MatchResult result (λ _. Happened IsSavedAs StandsFor g past old new w e) (IsReason (refusal g.f w e))

-- From whatever world it was, the replica did what its rules give for what it took up, or lost it.
pub record WentAt (IsSavedAs : Program → ℕ → List Command → SavedController → Type 0) {M : Type 0}
    (StandsFor : M → Membership → ReplicaState Command → Type 0) (old new : code.World M) (i : ℕ) (e : taken.Event)
    (result : Result (Unit {0}) EventFault) : Type 0 where
  pub went : (g : Group) (past : List (Event Command × Completion)) (w : World Command Answer) (t : Taken)
      (later : Completion → List (Event Command × Completion)) → Shows IsSavedAs StandsFor g past old w
      → IsPrefix (executed (w.replicas i)) w.order → (w.replicas i).commit_number ≤ length w.order
      → ((c : Completion) → Leads g past (later c) w
      (does g.f g.answer w i (by_rules (member g i) (w.stores i) (w.replicas i) t) c))
      → IsTaken IsSavedAs (member g i) e t → KeepsExecuted (member g i) (w.replicas i) t
      → FitsTaken IsSavedAs (member g i) (w.replicas i) e t
      → MatchResult result (λ _. Acted IsSavedAs StandsFor g past later old new w i
      (by_rules (member g i) (w.stores i) (w.replicas i) t)) (λ fault. fault ≡ Memory)

-- From whatever world it was, the reply came to this client.
pub record WentToClient (IsSavedAs : Program → ℕ → List Command → SavedController → Type 0) {M : Type 0}
    (StandsFor : M → Membership → ReplicaState Command → Type 0) (old new : code.World M) (c view number : ℕ)
    (a : Answer) (result : Result (Unit {0}) EventFault) : Type 0 where
  pub went : (g : Group) (past : List (Event Command × Completion)) (w : World Command Answer)
      → Shows IsSavedAs StandsFor g past old w
      → MatchResult result (λ _. CameToClient IsSavedAs StandsFor g past old new w c view number a)
      (λ fault. fault ≡ Memory)

-- From whatever world it was, the event happened, and the length of the committed list is noted; or it has no step
-- there.
pub record WentOn (IsSavedAs : Program → ℕ → List Command → SavedController → Type 0) {M : Type 0}
    (StandsFor : M → Membership → ReplicaState Command → Type 0) (old new : code.World M) (e : Event Command)
    (result : Result (Unit {0}) EventFault) : Type 0 where
  pub went : (g : Group) (past : List (Event Command × Completion)) (w : World Command Answer)
      → Shows IsSavedAs StandsFor g past old w → IsSettled g past w
      → MatchResult result (λ _. HappenedOn IsSavedAs StandsFor g past old new w e) (IsReason (refusal g.f w e))
