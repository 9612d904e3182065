-- What the code keeps goes on showing the world, step by step.
use Rattle.std.proofs.Common.{◌≡◌, ℕ, ◌<◌, ◌≤◌, max, List, [], ◌∷◌, ◌++◌, length, take, drop, Option, Some, None, Ok, Bool, true, false, refl, sym, ap, ◌∙◌, subst, arith, append-nil}
use Rattle.std.specs.List.{slice_get}
use Rattle.std.specs.Vec.{with_item}
use Rattle.std.specs.Ordering.{nat_cmp}
use Rattle.std.specs.BTreeSet.{contains}
use Rattle.std.proofs.lemmas.List.{length-set, length-map}
use Rattle.il_model.specs.declared.command.Command.{Command}
use Rattle.il_model.specs.declared.command.Answer.{Answer}
use Rattle.il_model.specs.Snapshots.{SavedController}
use Rattle.il_model.specs.Program.{Program}
use Rattle.vr_model.specs.declared.message.Message as sent
use Rattle.vr_model.specs.declared.message.Request as asked
use Rattle.vr_model.specs.declared.event.Event as taken
use Rattle.vr_model.specs.Logs.{Request, IsPrefix}
use Rattle.vr_model.specs.Replicas.{ReplicaState, Outcome, is_normal}
use Rattle.vr_model.specs.World.{World, Event, Completion, Done, Lost, Ending, Went as Ended, SaveFailed, ending_of, Effect, effect, failing_after, executed, longer, does}
use Rattle.vr_model.specs.Views.{WasLogOf}
use Rattle.vr_model.specs.Report.{lost_at}
use Rattle.vr_model.specs.StandsFor.{request_of, requests_of, AllStandFrom}
use Rattle.vr_schedules.proofs.Tables.{put_same, put_other}
use Rattle.vr_schedules.specs.declared.world.World as code
use Rattle.vr_schedules.specs.declared.world.Node.{Node}
use Rattle.vr_schedules.specs.declared.trace.Trace.{Trace}
use Rattle.vr_model.specs.Membership.{Group, Membership, member}
use Rattle.vr_schedules.specs.Handed.{AllStandIn}
use Rattle.vr_schedules.specs.Members.{Taken, IsTaken, Does, by_rules, KeepsExecuted, FitsTaken, MayEnd, failing_of, failing_left, is_lost}
use Rattle.vr_schedules.specs.Standing.{NodeShows, Shows, Leads, WentAt}
use Rattle.vr_schedules.proofs.Lists.{set_cases, stays, take_front, settled_order, requests_taken}
use Rattle.vr_schedules.proofs.Standings.{all_append, all_later, sent_stand}

-- a store that failed, and the others
failing_here : (g : ℕ → Option Bool) (i : ℕ) (e : Ending) → failing_after g i e i ≡ failing_left (g i) e
failing_here g i (Ended c) = refl
failing_here g i (SaveFailed new) = put_same g i None i refl

failing_there : (g : ℕ → Option Bool) (i : ℕ) (e : Ending) (j : ℕ) → (j ≡ i → ⊥) → failing_after g i e j ≡ g j
failing_there g i (Ended c) j ne = refl
failing_there g i (SaveFailed new) j ne = put_other g i None j ne

-- a node shows each world that is the same at its number
pub node_same : {M : Type 0} (StandsFor : M → Membership → ReplicaState Command → Type 0) (g : Group) (j : ℕ) (n : Node M) (w v : World Command Answer) → w.replicas j ≡ v.replicas j → w.stores j ≡ v.stores j → w.failing j ≡ v.failing j → ((x : ℕ) → w.used j x ≡ v.used j x)
    → NodeShows StandsFor g j n w → NodeShows StandsFor g j n v
node_same StandsFor g j n w v a b c d k = record {
  replica = subst (StandsFor n.member (member g j)) a k.replica;
  store = sym b ∙ k.store;
  failing = sym c ∙ k.failing;
  used = λ x. sym (d x) ∙ k.used x;
}

module _ (IsSavedAs : Program → ℕ → List Command → SavedController → Type 0) {M : Type 0} (StandsFor : M → Membership → ReplicaState Command → Type 0) (g : Group) (past later : List (Event Command × Completion)) where
  -- what shows a world shows it also later on
  pub shows_later : (s : code.World M) (w : World Command Answer) → ((view : ℕ) (log : List (Request Command)) → WasLogOf g.f g.answer past view log → WasLogOf g.f g.answer later view log)
      → Shows IsSavedAs StandsFor g past s w → Shows IsSavedAs StandsFor g later s w
  shows_later s w still h = record { config = h.config; size = h.size; nodes = h.nodes; count = h.count; clients = h.clients; sent = all_later IsSavedAs g past later still s.trace.sent.items w.sent h.sent; order = h.order }

  nothing_stands : (i : ℕ) (r : ReplicaState Command) (out : List sent.Message) → AllStandFrom IsSavedAs g r out [] → AllStandIn IsSavedAs g later out []
  nothing_stands i r [] a = tt
  nothing_stands i r (x ∷ xs) a = absurd a

  -- what a step sent
  sends_stand : (i : ℕ) (r : ReplicaState Command) (stored : ℕ) (o : Outcome Command Answer) (out : List sent.Message) (e : Ending)
      → (is_normal (effect r stored o e).replica.status ≡ true → WasLogOf g.f g.answer later (effect r stored o e).replica.view (effect r stored o e).replica.log)
      → AllStandFrom IsSavedAs g o.replica out (effect r stored o e).sends → AllStandIn IsSavedAs g later out (effect r stored o e).sends
  sends_stand i r stored o out (Ended Done) was a = sent_stand IsSavedAs g later o.replica out o.sends was a
  sends_stand i r stored o out (Ended (Lost saved)) was a = nothing_stands i o.replica out a
  sends_stand i r stored o out (SaveFailed new) was a = nothing_stands i o.replica out a

  -- replica i did its step
  pub shows_does : (s : code.World M) (w : World Command Answer) (i : ℕ) (n p : Node M) (t : Trace) (o : Outcome Command Answer) (lost : Bool) (out : List sent.Message)
      → Shows IsSavedAs StandsFor g past s w → slice_get s.nodes.items i ≡ Some n → p.used ≡ n.used
      → (d : Does IsSavedAs (member g i) (StandsFor p.member (member g i)) (w.replicas i) n.store p.store o lost out)
      → Leads g past later w (does g.f g.answer w i o d.completion)
      → t.sent.items ≡ s.trace.sent.items ++ out
      → requests_of t.order.items ≡ (does g.f g.answer w i o d.completion).order
      → Shows IsSavedAs StandsFor g later (record s { nodes = with_item s.nodes i p; trace = t }) (does g.f g.answer w i o d.completion)
  shows_does s w i n p t o lost out h is used d leads sends order =
      let k : NodeShows StandsFor g i n w = h.nodes i n is in
      let T : ℕ → Option Bool → Effect Command Answer = λ view failing. effect (w.replicas i) view o (ending_of d.completion o.saves failing) in
      let same : T (w.stores i) (w.failing i) ≡ T n.store.view (failing_of n.store) = ap (λ view. T view (w.failing i)) k.store ∙ ap (T n.store.view) k.failing in
      let v : World Command Answer = does g.f g.answer w i o d.completion in
      let ending : Ending = ending_of d.completion o.saves (w.failing i) in
      let same_ending : ending ≡ ending_of d.completion o.saves (failing_of n.store) = ap (ending_of d.completion o.saves) k.failing in
      let here : v.replicas i ≡ (T (w.stores i) (w.failing i)).replica = put_same w.replicas i (T (w.stores i) (w.failing i)).replica i refl in
      let went : AllStandFrom IsSavedAs g o.replica out (T (w.stores i) (w.failing i)).sends = subst (λ (e : Effect Command Answer). AllStandFrom IsSavedAs g o.replica out e.sends) (sym same) d.sends in
      let stand : AllStandIn IsSavedAs g later out (T (w.stores i) (w.failing i)).sends =
      sends_stand i (w.replicas i) (w.stores i) o out ending (subst (λ (r : ReplicaState Command). is_normal r.status ≡ true → WasLogOf g.f g.answer later r.view r.log) here (leads.was i)) went in
      record {
        config = h.config;
        size = length-set s.nodes.items i p ∙ h.size;
        nodes = set_cases s.nodes.items i p (λ j m. NodeShows StandsFor g j m v) (record {
          replica = subst (StandsFor p.member (member g i)) (ap (λ (e : Effect Command Answer). e.replica) (sym same) ∙ sym here) d.replica;
          store = put_same w.stores i (T (w.stores i) (w.failing i)).store i refl ∙ ap (λ (e : Effect Command Answer). e.store) same ∙ sym d.store;
          failing = failing_here w.failing i ending ∙ ap (failing_left (w.failing i)) same_ending ∙ ap (λ g. failing_left g (ending_of d.completion o.saves (failing_of n.store))) k.failing ∙ sym d.failing;
          used = λ x. k.used x ∙ ap (λ u. contains nat_cmp u x) (sym used);
        }) (λ j m ne at. node_same StandsFor g j m w v (sym (put_other w.replicas i (T (w.stores i) (w.failing i)).replica j ne)) (sym (put_other w.stores i (T (w.stores i) (w.failing i)).store j ne))
            (sym (failing_there w.failing i ending j ne)) (λ x. refl) (h.nodes j m at));
        count = h.count;
        clients = h.clients;
        sent = subst (λ xs. AllStandIn IsSavedAs g later xs (w.sent ++ (T (w.stores i) (w.failing i)).sends)) (sym sends)
            (all_append IsSavedAs g later s.trace.sent.items out w.sent (T (w.stores i) (w.failing i)).sends (all_later IsSavedAs g past later leads.still s.trace.sent.items w.sent h.sent) stand);
        order = sym order;
      }

-- what was not lost adds nothing to what was
lost_none : (n : ℕ) (c : Completion) → false ≡ is_lost c → lost_at n c ≡ []
lost_none n Done e = refl
lost_none n (Lost saved) e = absurd (cc)

lost_one : (n : ℕ) (c : Completion) → true ≡ is_lost c → lost_at n c ≡ n ∷ []
lost_one n Done e = absurd (cc)
lost_one n (Lost saved) e = refl

-- a replica whose step was lost has executed no more than before
lost_executed : (order : List (Request Command)) (r : ReplicaState Command) (stored : ℕ) (o : Outcome Command Answer) (c : Completion) (saves : Option ℕ) (failing : Option Bool) → true ≡ is_lost c
    → IsPrefix (executed r) order → IsPrefix (executed (effect r stored o (ending_of c saves failing)).replica) order
lost_executed order r stored o Done saves failing e k = absurd (cc)
lost_executed order r stored o (Lost false) saves failing e k = k
lost_executed order r stored o (Lost true) None failing e k = k
lost_executed order r stored o (Lost true) (Some u) None e k = k
lost_executed order r stored o (Lost true) (Some u) (Some new) e k = record { rest = order; is = refl }

module _ (IsSavedAs : Program → ℕ → List Command → SavedController → Type 0) {M : Type 0} (StandsFor : M → Membership → ReplicaState Command → Type 0) (s : code.World M) (i : ℕ) (n p : Node M) (t : Trace) (e : taken.Event) (ahead : List asked.Request)
    (is : slice_get s.nodes.items i ≡ Some n) (used : p.used ≡ n.used)
    (looks : (m : Membership) (r : ReplicaState Command) → StandsFor n.member m r → r.commit_number ≤ length s.trace.order.items → requests_of ahead ≡ requests_of s.trace.order.items ++ drop (length s.trace.order.items) r.log)
    (releases : t.releases.items ≡ s.trace.releases.items) (lengths : t.lengths.items ≡ s.trace.lengths.items) where
  module _ (g : Group) (past : List (Event Command × Completion)) (w : World Command Answer) (h : Shows IsSavedAs StandsFor g past s w) where
    -- the rules' outcome, by the view that the node keeps and by the world's
    same_outcome : (x : Taken) → by_rules (member g i) n.store.view (w.replicas i) x ≡ by_rules (member g i) (w.stores i) (w.replicas i) x
    same_outcome x = ap (λ view. by_rules (member g i) view (w.replicas i) x) (sym (h.nodes i n is).store)

    -- and the effect
    same_effect : (o : Outcome Command Answer) (c : Completion)
        → effect (w.replicas i) n.store.view o (ending_of c o.saves (failing_of n.store)) ≡ effect (w.replicas i) (w.stores i) o (ending_of c o.saves (w.failing i))
    same_effect o c =
        let k : NodeShows StandsFor g i n w = h.nodes i n is in
        let T : ℕ → Option Bool → Effect Command Answer = λ view failing. effect (w.replicas i) view o (ending_of c o.saves failing) in
        ap (λ view. T view (failing_of n.store)) (sym k.store) ∙ ap (T (w.stores i)) (sym k.failing)

    long : length w.order ≡ length s.trace.order.items
    long = ap length h.order ∙ length-map s.trace.order.items request_of

    -- what came behind the committed list
    ahead_is : (w.replicas i).commit_number ≤ length w.order → requests_of ahead ≡ w.order ++ drop (length w.order) (w.replicas i).log
    ahead_is low = looks (member g i) (w.replicas i) (h.nodes i n is).replica (omega (arith, long))
        ∙ ap (λ k. requests_of s.trace.order.items ++ drop k (w.replicas i).log) (sym long) ∙ ap (λ xs. xs ++ drop (length w.order) (w.replicas i).log) (sym h.order)

  pub acted_done : (out : List sent.Message) (committed : ℕ)
      → ((m : Membership) (r : ReplicaState Command) (x : Taken) → StandsFor n.member m r → IsTaken IsSavedAs m e x → KeepsExecuted m r x → FitsTaken IsSavedAs m r e x → Does IsSavedAs m (StandsFor p.member m) r n.store p.store (by_rules m n.store.view r x) false out)
      → t.sent.items ≡ s.trace.sent.items ++ out
      → committed ≡ length s.trace.order.items
      → ((m : Membership) (r : ReplicaState Command) → StandsFor p.member m r → t.order.items ≡ take (max committed r.commit_number) ahead)
      → t.lost.items ≡ s.trace.lost.items
      → WentAt IsSavedAs StandsFor s (record s { nodes = with_item s.nodes i p; trace = t }) i e (Ok tt)
  acted_done out committed does_it sends was order lost = record {
    went = λ g past w x later h before within leads taken keeps fits.
        let k : NodeShows StandsFor g i n w = h.nodes i n is in
        let o : Outcome Command Answer = by_rules (member g i) (w.stores i) (w.replicas i) x in
        let d : Does IsSavedAs (member g i) (StandsFor p.member (member g i)) (w.replicas i) n.store p.store o false out =
        subst (λ y. Does IsSavedAs (member g i) (StandsFor p.member (member g i)) (w.replicas i) n.store p.store y false out) (same_outcome g past w h x) (does_it (member g i) (w.replicas i) x k.replica taken keeps fits) in
        let q : ReplicaState Command = (effect (w.replicas i) (w.stores i) o (ending_of d.completion o.saves (w.failing i))).replica in
        let stands : StandsFor p.member (member g i) q = subst (λ (y : Effect Command Answer). StandsFor p.member (member g i) y.replica) (same_effect g past w h o d.completion) d.replica in
        let here : (does g.f g.answer w i o d.completion).replicas i ≡ q = put_same w.replicas i q i refl in
        let lead : Leads g past (later d.completion) w (does g.f g.answer w i o d.completion) = leads d.completion in
        let had : length w.order < q.commit_number → longer w.order (executed q) ≡ take q.commit_number (w.replicas i).log =
        subst (λ (r : ReplicaState Command). length w.order < r.commit_number → longer w.order (executed q) ≡ take r.commit_number (w.replicas i).log) here (lead.had i) in
        let now : requests_of t.order.items ≡ (does g.f g.answer w i o d.completion).order =
        requests_taken t.order.items ahead (max committed q.commit_number) (order (member g i) q stands)
        ∙ ap (λ l. take (max l q.commit_number) (requests_of ahead)) (was ∙ sym (long g past w h))
        ∙ ap (take (max (length w.order) q.commit_number)) (ahead_is g past w h within)
        ∙ settled_order w.order (w.replicas i).log q.log q.commit_number lead.grows had in
        record {
          completion = d.completion;
          may = subst (λ y. MayEnd (w.replicas i) o y d.completion) (sym k.failing) d.may;
          shows = shows_does IsSavedAs StandsFor g past (later d.completion) s w i n p t o false out h is used d lead sends now;
          releases = releases;
          lengths = lengths;
          lost = lost ∙ sym (append-nil s.trace.lost.items) ∙ ap (λ xs. s.trace.lost.items ++ xs) (sym (lost_none (length s.trace.lengths.items) d.completion d.tells));
        };
  }

  pub acted_lost : (committed : ℕ)
      → ((m : Membership) (r : ReplicaState Command) (x : Taken) → StandsFor n.member m r → IsTaken IsSavedAs m e x → KeepsExecuted m r x → FitsTaken IsSavedAs m r e x → Does IsSavedAs m (StandsFor p.member m) r n.store p.store (by_rules m n.store.view r x) true [])
      → t.sent.items ≡ s.trace.sent.items
      → committed ≡ length s.trace.order.items
      → t.order.items ≡ take committed ahead
      → t.lost.items ≡ s.trace.lost.items ++ length s.trace.lengths.items ∷ []
      → WentAt IsSavedAs StandsFor s (record s { nodes = with_item s.nodes i p; trace = t }) i e (Ok tt)
  acted_lost committed does_it sends was order lost = record {
    went = λ g past w x later h before within leads taken keeps fits.
        let k : NodeShows StandsFor g i n w = h.nodes i n is in
        let o : Outcome Command Answer = by_rules (member g i) (w.stores i) (w.replicas i) x in
        let d : Does IsSavedAs (member g i) (StandsFor p.member (member g i)) (w.replicas i) n.store p.store o true [] =
        subst (λ y. Does IsSavedAs (member g i) (StandsFor p.member (member g i)) (w.replicas i) n.store p.store y true []) (same_outcome g past w h x) (does_it (member g i) (w.replicas i) x k.replica taken keeps fits) in
        let now : requests_of t.order.items ≡ (does g.f g.answer w i o d.completion).order =
        requests_taken t.order.items ahead committed order
        ∙ ap (λ l. take l (requests_of ahead)) (was ∙ sym (long g past w h))
        ∙ ap (take (length w.order)) (ahead_is g past w h within)
        ∙ take_front w.order (drop (length w.order) (w.replicas i).log)
        ∙ sym (stays w.order (executed (effect (w.replicas i) (w.stores i) o (ending_of d.completion o.saves (w.failing i))).replica)
        (lost_executed w.order (w.replicas i) (w.stores i) o d.completion o.saves (w.failing i) d.tells before)) in
        record {
          completion = d.completion;
          may = subst (λ y. MayEnd (w.replicas i) o y d.completion) (sym k.failing) d.may;
          shows = shows_does IsSavedAs StandsFor g past (later d.completion) s w i n p t o true [] h is used d (leads d.completion) (sends ∙ sym (append-nil s.trace.sent.items)) now;
          releases = releases;
          lengths = lengths;
          lost = lost ∙ ap (λ xs. s.trace.lost.items ++ xs) (sym (lost_one (length s.trace.lengths.items) d.completion d.tells));
        };
  }
