-- The events of a replica that are no steps of its rules: crash, failing store, and the nonce of a restart.
use Rattle.std.proofs.Common.{◌≡◌, ℕ, ◌<◌, List, [], ◌∷◌, ◌++◌, length, Some, None, Result, Ok, Err, MatchResult, Bool, true, false, not, cond, ◌==◌, refl, sym, ap, ◌∙◌, subst, arith, append-nil}
use Rattle.std.specs.List.{slice_get}
use Rattle.std.specs.Vec.{with_item}
use Rattle.std.specs.Ordering.{nat_cmp}
use Rattle.std.specs.BTreeSet.{contains}
use Rattle.std.proofs.lemmas.Bool.{lt-ltb}
use Rattle.std.proofs.lemmas.List.{length-set}
use Rattle.il_model.specs.declared.command.Command.{Command}
use Rattle.il_model.specs.declared.command.Answer.{Answer}
use Rattle.il_model.specs.Snapshots.{SavedController}
use Rattle.il_model.specs.Program.{Program}
use Rattle.vr_model.specs.declared.event.Event.TheVariants as event
use Rattle.vr_model.specs.Groups.{group_size}
use Rattle.vr_model.specs.Replicas.{ReplicaState, is_down, put}
use Rattle.vr_model.specs.Rules.{on_restart}
use Rattle.vr_model.specs.World.{World, Event, Crash, Restart, StoreFail, Completion, Done, down, does, steps, refusal, require, NonceUsed, StillUp}
use Rattle.vr_schedules.proofs.Tables.{put_same, put_other}
use Rattle.vr_schedules.specs.declared.world.World as code
use Rattle.vr_schedules.specs.declared.world.Node.{Node}
use Rattle.vr_schedules.specs.declared.store.Kept.{Kept}
use Rattle.vr_schedules.specs.declared.fault.EventFault.{EventFault}
use Rattle.vr_schedules.specs.declared.fault.EventFault.TheVariants.{Refused, Memory}
use Rattle.vr_model.specs.Membership.{Group, Membership, member}
use Rattle.vr_schedules.specs.Handed.{AllStandIn}
use Rattle.vr_schedules.specs.Members.{ComesUp, by_rules, keeps_new, failing_of, MayEnd}
use Rattle.vr_schedules.specs.Events.{IsReason}
use Rattle.vr_schedules.specs.Standing.{NodeShows, Shows, Leads, IsSettled, Happened, Acted, Went, WentAt, releases_of}
use Rattle.vr_schedules.proofs.Lists.{set_cases, stays}
use Rattle.vr_schedules.proofs.Shown.{node_same}
use Rattle.vr_schedules.proofs.Acting.{happens_is, completes}
use Rattle.vr_schedules.proofs.Clients.{happened_done}

-- an event without a reason passes both tests
both_pass : (a b : Bool) → require a NonceUsed (require b StillUp None) ≡ None → b ≡ true
both_pass true true e = refl
both_pass true false e = absurd cc
both_pass false b e = absurd cc

module _ (IsSavedAs : Program → ℕ → List Command → SavedController → Type 0) {M : Type 0} (StandsFor : M → Membership → ReplicaState Command → Type 0) where
  -- one node changed, and nothing else
  shows_node : (g : Group) (past : List (Event Command × Completion)) (s : code.World M) (w v : World Command Answer) (i : ℕ) (p : Node M) → Shows IsSavedAs StandsFor g past s w
      → NodeShows StandsFor g i p v
      → ((j : ℕ) → (j ≡ i → ⊥) → (w.replicas j ≡ v.replicas j) × (w.stores j ≡ v.stores j) × (w.failing j ≡ v.failing j) × ((x : ℕ) → w.used j x ≡ v.used j x))
      → ((c : ℕ) → w.clients c ≡ v.clients c) → w.sent ≡ v.sent → w.order ≡ v.order
      → Shows IsSavedAs StandsFor g past (record s { nodes = with_item s.nodes i p }) v
  shows_node g past s w v i p h now others clients sent order = record {
    config = h.config;
    size = length-set s.nodes.items i p ∙ h.size;
    nodes = set_cases s.nodes.items i p (λ j m. NodeShows StandsFor g j m v) now (λ j m ne at. let o = others j ne in node_same StandsFor g j m w v o.0 o.1 o.2 o.3 (h.nodes j m at));
    count = h.count;
    clients = λ c k at. sym (clients c) ∙ h.clients c k at;
    sent = subst (AllStandIn IsSavedAs g past s.trace.sent.items) sent h.sent;
    order = sym order ∙ h.order;
  }

  pub crashed : (s : code.World M) (i number : ℕ) (n p : Node M) → i ≡ number → i < length s.nodes.items → slice_get s.nodes.items i ≡ Some n
      → p.used ≡ n.used → p.store ≡ n.store
      → ((m : Membership) (r : ReplicaState Command) → StandsFor n.member m r → StandsFor p.member m (down r))
      → Went IsSavedAs StandsFor s (record s { nodes = with_item s.nodes i p }) (Crash number) (Ok tt)
  crashed s i number n p named l at used store stands = subst (λ m. Went IsSavedAs StandsFor s (record s { nodes = with_item s.nodes i p }) (Crash m) (Ok tt)) named (record {
    went = λ g past w h settled.
        let k : NodeShows StandsFor g i n w = h.nodes i n at in
        let v : World Command Answer = steps g.f g.answer w (Crash i) Done in
        let within : i < group_size g.f = omega (arith, h.size) in
        happened_done IsSavedAs StandsFor g past s (record s { nodes = with_item s.nodes i p }) w (Crash i) settled (rw (lt-ltb i (group_size g.f) within) refl) (λ m. refl)
        (shows_node g past s w v i p h
        (record {
          replica = subst (StandsFor p.member (member g i)) (sym (put_same w.replicas i (down (w.replicas i)) i refl)) (stands (member g i) (w.replicas i) k.replica);
          store = put_same w.stores i (w.stores i) i refl ∙ k.store ∙ ap (λ x. x.view) (sym store);
          failing = k.failing ∙ ap failing_of (sym store);
          used = λ x. k.used x ∙ ap (λ u. contains nat_cmp u x) (sym used);
        })
        (λ j ne. (sym (put_other w.replicas i (down (w.replicas i)) j ne), sym (put_other w.stores i (w.stores i) j ne), refl, λ x. refl))
        (λ c. refl) (sym (append-nil w.sent)) (sym (stays w.order [] (record { rest = w.order; is = refl }))))
        refl refl refl;
  })

  pub store_fails : (s : code.World M) (i number : ℕ) (n p : Node M) (kept : Kept) → i ≡ number → i < length s.nodes.items → slice_get s.nodes.items i ≡ Some n
      → p ≡ record n { store = record n.store { failing = Some kept } }
      → Went IsSavedAs StandsFor s (record s { nodes = with_item s.nodes i p }) (StoreFail number (keeps_new kept)) (Ok tt)
  store_fails s i number n p kept named l at is = subst (λ m. Went IsSavedAs StandsFor s (record s { nodes = with_item s.nodes i p }) (StoreFail m (keeps_new kept)) (Ok tt)) named
      (subst (λ q. Went IsSavedAs StandsFor s (record s { nodes = with_item s.nodes i q }) (StoreFail i (keeps_new kept)) (Ok tt)) (sym is) (record {
        went = λ g past w h settled.
            let k : NodeShows StandsFor g i n w = h.nodes i n at in
            let v : World Command Answer = steps g.f g.answer w (StoreFail i (keeps_new kept)) Done in
            let within : i < group_size g.f = omega (arith, h.size) in
            happened_done IsSavedAs StandsFor g past s (record s { nodes = with_item s.nodes i (record n { store = record n.store { failing = Some kept } }) }) w (StoreFail i (keeps_new kept)) settled (rw (lt-ltb i (group_size g.f) within) refl) (λ m. refl)
            (shows_node g past s w v i (record n { store = record n.store { failing = Some kept } }) h
            (record {
              replica = k.replica;
              store = k.store;
              failing = put_same w.failing i (Some (keeps_new kept)) i refl;
              used = k.used;
            })
            (λ j ne. (refl, refl, sym (put_other w.failing i (Some (keeps_new kept)) j ne), λ x. refl))
            (λ c. refl) refl refl)
            refl refl refl;
      }))

  -- the world in which the replica has used this nonce
  abbrev pub using_nonce : World Command Answer → ℕ → ℕ → World Command Answer
  using_nonce w i x = record w { used = put w.used i (put (w.used i) x true) }

  used_there : (w : World Command Answer) (i x j : ℕ) → (j ≡ i → ⊥) → (y : ℕ) → w.used j y ≡ (using_nonce w i x).used j y
  used_there w i x j ne y = ap (λ (t : ℕ → Bool). t y) (sym (put_other w.used i (put (w.used i) x true) j ne))

  shows_nonce : (g : Group) (past : List (Event Command × Completion)) (s : code.World M) (w : World Command Answer) (i x : ℕ) (n p : Node M) → Shows IsSavedAs StandsFor g past s w → slice_get s.nodes.items i ≡ Some n
      → p.member ≡ n.member → p.store ≡ n.store → ((y : ℕ) → contains nat_cmp p.used y ≡ put (contains nat_cmp n.used) x true y)
      → Shows IsSavedAs StandsFor g past (record s { nodes = with_item s.nodes i p }) (using_nonce w i x)
  shows_nonce g past s w i x n p h at same_member store used =
      let k : NodeShows StandsFor g i n w = h.nodes i n at in
      shows_node g past s w (using_nonce w i x) i p h
      (record {
        replica = subst (λ x. StandsFor x (member g i) (w.replicas i)) (sym same_member) k.replica;
        store = k.store ∙ ap (λ z. z.view) (sym store);
        failing = k.failing ∙ ap failing_of (sym store);
        used = λ y. ap (λ (t : ℕ → Bool). t y) (put_same w.used i (put (w.used i) x true) i refl) ∙ ap (λ b. cond (y == x) true b) (k.used y) ∙ sym (used y);
      })
      (λ j ne. (refl, refl, refl, used_there w i x j ne))
      (λ c. refl) refl refl

  module _ (s v : code.World M) (i x : ℕ) (n p : Node M) (l : i < length s.nodes.items) (at : slice_get s.nodes.items i ≡ Some n)
      (may : (m : Membership) (r : ReplicaState Command) → StandsFor n.member m r → require (not (contains nat_cmp n.used x)) NonceUsed (require (is_down r.status) StillUp None) ≡ None)
      (same_member : p.member ≡ n.member) (store : p.store ≡ n.store) (used : (y : ℕ) → contains nat_cmp p.used y ≡ put (contains nat_cmp n.used) x true y)
      (g : Group) (past : List (Event Command × Completion)) (w : World Command Answer) (h : Shows IsSavedAs StandsFor g past s w) where
    down_now : is_down (w.replicas i).status ≡ true
    down_now = both_pass (not (contains nat_cmp n.used x)) (is_down (w.replicas i).status) (may (member g i) (w.replicas i) (h.nodes i n at).replica)

    restart_step : refusal g.f w (Restart i x) ≡ None
    restart_step =
        let within : i < group_size g.f = omega (arith, h.size) in
        rw (lt-ltb i (group_size g.f) within, (h.nodes i n at).used x) (may (member g i) (w.replicas i) (h.nodes i n at).replica)

    restart_outcome : by_rules (member g i) (w.stores i) (w.replicas i) (ComesUp x) ≡ on_restart g.f i g.answer (record (w.replicas i) { stored_view = w.stores i }) x
    restart_outcome = rw down_now refl

    restart_leads : IsSettled g past w → (c : Completion)
        → Leads g past (past ++ (Restart i x, c) ∷ []) w (does g.f g.answer (using_nonce w i x) i (by_rules (member g i) (w.stores i) (w.replicas i) (ComesUp x)) c)
    restart_leads settled c = subst (λ o. Leads g past (past ++ (Restart i x, c) ∷ []) w (does g.f g.answer (using_nonce w i x) i o c)) (sym restart_outcome)
        (subst (Leads g past (past ++ (Restart i x, c) ∷ []) w) (happens_is g.f g.answer w (Restart i x) c restart_step) (settled.leads (Restart i x) c))

    -- the same from the world in which the nonce is used
    from_nonce : (later : List (Event Command × Completion)) (z : World Command Answer) → Leads g past later w z → Leads g past later (using_nonce w i x) z
    from_nonce later z k = record { grows = k.grows; had = k.had; was = k.was; still = k.still }

    restart_acts : IsSettled g past w → (result : Result (Unit {0}) EventFault) → WentAt IsSavedAs StandsFor (record s { nodes = with_item s.nodes i p }) v i (event.Restart x) result
        → MatchResult result (λ _. Acted IsSavedAs StandsFor g past (λ c. past ++ (Restart i x, c) ∷ []) (record s { nodes = with_item s.nodes i p }) v (using_nonce w i x) i (by_rules (member g i) (w.stores i) (w.replicas i) (ComesUp x))) (λ fault. fault ≡ Memory)
    restart_acts settled result k = k.went g past (using_nonce w i x) (ComesUp x) (λ c. past ++ (Restart i x, c) ∷ []) (shows_nonce g past s w i x n p h at same_member store used) (settled.agreed i) (settled.within i)
        (λ c. from_nonce (past ++ (Restart i x, c) ∷ []) _ (restart_leads settled c)) refl tt tt

    restart_happened : Acted IsSavedAs StandsFor g past (λ c. past ++ (Restart i x, c) ∷ []) (record s { nodes = with_item s.nodes i p }) v (using_nonce w i x) i (by_rules (member g i) (w.stores i) (w.replicas i) (ComesUp x))
        → Happened IsSavedAs StandsFor g past s v w (Restart i x)
    restart_happened a = record {
      completion = a.completion;
      has_step = restart_step;
      complete = completes g.f g.answer w (Restart i x) i (on_restart g.f i g.answer (record (w.replicas i) { stored_view = w.stores i }) x) a.completion refl
          (subst (λ o. MayEnd (w.replicas i) o (w.failing i) a.completion) restart_outcome a.may);
      shows = subst (Shows IsSavedAs StandsFor g (past ++ (Restart i x, a.completion) ∷ []) v) (sym (happens_is g.f g.answer w (Restart i x) a.completion restart_step))
          (subst (λ o. Shows IsSavedAs StandsFor g (past ++ (Restart i x, a.completion) ∷ []) v (does g.f g.answer (using_nonce w i x) i o a.completion)) restart_outcome a.shows);
      releases = ap releases_of a.releases ∙ sym (append-nil (releases_of s.trace.releases.items));
      lengths = a.lengths;
      lost = a.lost;
    }

  -- a replica that is down starts again
  pub restarts_went : (s v : code.World M) (i number x : ℕ) (n p : Node M) (result : Result (Unit {0}) EventFault) → i ≡ number → i < length s.nodes.items → slice_get s.nodes.items i ≡ Some n
      → ((m : Membership) (r : ReplicaState Command) → StandsFor n.member m r → require (not (contains nat_cmp n.used x)) NonceUsed (require (is_down r.status) StillUp None) ≡ None)
      → p.member ≡ n.member → p.store ≡ n.store → ((y : ℕ) → contains nat_cmp p.used y ≡ put (contains nat_cmp n.used) x true y)
      → WentAt IsSavedAs StandsFor (record s { nodes = with_item s.nodes i p }) v i (event.Restart x) result
      → Went IsSavedAs StandsFor s v (Restart number x) result
  restarts_went s v i number x n p result named l at may same_member store used k = subst (λ m. Went IsSavedAs StandsFor s v (Restart m x) result) named (go result k)
    where
      go : (result : Result (Unit {0}) EventFault) → WentAt IsSavedAs StandsFor (record s { nodes = with_item s.nodes i p }) v i (event.Restart x) result → Went IsSavedAs StandsFor s v (Restart i x) result
      go (Ok u) k = record { went = λ g past w h settled. restart_happened s v i x n p l at may same_member store used g past w h (restart_acts s v i x n p l at may same_member store used g past w h settled (Ok u) k) }
      go (Err (Refused reason)) k = record { went = λ g past w h settled. absurd (let no_fault : Refused reason ≡ Memory = restart_acts s v i x n p l at may same_member store used g past w h settled (Err (Refused reason)) k in cc) }
      go (Err Memory) k = record { went = λ g past w h settled. tt }

  -- it can't
  pub restarts_not : (s v : code.World M) (i number x : ℕ) (n : Node M) (fault : EventFault) (result : Result (Unit {0}) EventFault) → i ≡ number → i < length s.nodes.items → slice_get s.nodes.items i ≡ Some n
      → ((m : Membership) (r : ReplicaState Command) → StandsFor n.member m r → IsReason (require (not (contains nat_cmp n.used x)) NonceUsed (require (is_down r.status) StillUp None)) fault)
      → result ≡ Err fault → Went IsSavedAs StandsFor s v (Restart number x) result
  restarts_not s v i number x n fault result named l at why is = subst (λ m. Went IsSavedAs StandsFor s v (Restart m x) result) named (subst (Went IsSavedAs StandsFor s v (Restart i x)) (sym is) (go fault why))
    where
      go : (e : EventFault) → ((m : Membership) (r : ReplicaState Command) → StandsFor n.member m r → IsReason (require (not (contains nat_cmp n.used x)) NonceUsed (require (is_down r.status) StillUp None)) e) → Went IsSavedAs StandsFor s v (Restart i x) (Err e)
      go (Refused reason) why = record {
        went = λ g past w h settled.
            let within : i < group_size g.f = omega (arith, h.size) in
            rw (lt-ltb i (group_size g.f) within, (h.nodes i n at).used x) (why (member g i) (w.replicas i) (h.nodes i n at).replica);
      }
      go Memory why = record { went = λ g past w h settled. tt }
