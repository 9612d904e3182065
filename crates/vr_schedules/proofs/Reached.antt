-- The run of the events so far, and what one more event makes of it.
use Rattle.std.proofs.Common.{◌≡◌, ℕ, ◌+◌, ◌<◌, ◌≤◌, List, [], ◌∷◌, ◌++◌, length, map, min, true, take, drop, replicate, get_or, Option, Some, None, Ok, Err, zero, suc, refl, sym, ap, ◌∙◌, subst, arith, append-nil, append_assoc, zero-add}
use Rattle.std.specs.List.{slice_get}
use Rattle.std.proofs.lemmas.List.{length-map, map-append, take_more, length-take, take_all, take-append-drop, length-replicate}
use Rattle.std.proofs.lemmas.Option.{slice_get_within, slice_get-get_or, get_or_from_slice_get}
use Rattle.il_model.specs.declared.command.Command.{Command}
use Rattle.il_model.specs.declared.command.Answer.{Answer}
use Rattle.il_model.specs.Snapshots.{SavedController}
use Rattle.il_model.specs.Program.{Program}
use Rattle.vr_model.specs.declared.config.Config.{Config}
use Rattle.vr_model.specs.Logs.{Request, IsPrefix}
use Rattle.vr_model.specs.Views.{WasLogOf}
use Rattle.vr_model.specs.Replicas.{ReplicaState, is_normal}
use Rattle.vr_model.specs.World.{Reason, World, Event, Completion, Done, happens, refusal, run, start, executed}
use Rattle.vr_model.specs.Groups.{client_count}
use Rattle.vr_schedules.specs.Traces.{Laws, AreNew, IsTraced, Fails}
use Rattle.vr_model.specs.Report.{released, lost_at, report_from, report, refused_at, first_refusal, AllComplete, all_done}
use Rattle.vr_schedules.specs.declared.world.World as code
use Rattle.vr_schedules.specs.declared.event.WorldEvent.{WorldEvent}
use Rattle.vr_model.specs.Membership.{Group, Membership}
use Rattle.vr_schedules.specs.Clients.{client_of, fresh_client}
use Rattle.vr_schedules.specs.declared.fault.EventFault.{EventFault}
use Rattle.vr_schedules.specs.declared.fault.EventFault.TheVariants.{Refused, Memory}
use Rattle.vr_model.specs.StandsFor.{requests_of, AllStand}
use Rattle.vr_schedules.specs.Handed.{AllStandIn}
use Rattle.vr_schedules.specs.Events.{event_of, events_of, error_at, reason_of}
use Rattle.vr_schedules.specs.Standing.{NodeShows, Shows, Leads, IsSettled, HappenedOn, WentOn, IsFirst, first_node, releases_of}
use Rattle.vr_schedules.proofs.Standings.{all_stand}

-- ---- one more event in the definitions

module _ (f : ℕ) (answer : List Command → Answer) (x : Event Command × Completion) where
  pub run_more : (es : List (Event Command × Completion)) (w : World Command Answer) → run f answer (es ++ x ∷ []) w ≡ happens f answer (run f answer es w) x.0 x.1
  run_more [] w = refl
  run_more (e ∷ es) w = run_more es (happens f answer w e.0 e.1)

  releases_more : (n : ℕ) (es : List (Event Command × Completion)) (w : World Command Answer) → (report_from f answer n (es ++ x ∷ []) w).releases ≡ (report_from f answer n es w).releases ++ released (n + length es) (run f answer es w) x.0
  releases_more n [] w = append-nil (released n w x.0) ∙ ap (λ k. released k w x.0) (omega arith)
  releases_more n (e ∷ es) w =
      let v = happens f answer w e.0 e.1 in
      let later : suc n + length es ≡ n + suc (length es) = omega arith in
      ap (λ rs. released n w e.0 ++ rs) (releases_more (suc n) es v ∙ ap (λ k. (report_from f answer (suc n) es v).releases ++ released k (run f answer es v) x.0) later) ∙ sym (append_assoc (released n w e.0) (report_from f answer (suc n) es v).releases (released (n + suc (length es)) (run f answer es v) x.0))

  lengths_more : (n : ℕ) (es : List (Event Command × Completion)) (w : World Command Answer) → (report_from f answer n (es ++ x ∷ []) w).lengths ≡ (report_from f answer n es w).lengths ++ length (happens f answer (run f answer es w) x.0 x.1).order ∷ []
  lengths_more n [] w = refl
  lengths_more n (e ∷ es) w = ap (λ ls. length (happens f answer w e.0 e.1).order ∷ ls) (lengths_more (suc n) es (happens f answer w e.0 e.1))

  lost_more : (n : ℕ) (es : List (Event Command × Completion)) (w : World Command Answer) → (report_from f answer n (es ++ x ∷ []) w).lost ≡ (report_from f answer n es w).lost ++ lost_at (n + length es) x.1
  lost_more n [] w = append-nil (lost_at n x.1) ∙ ap (λ k. lost_at k x.1) (omega arith)
  lost_more n (e ∷ es) w =
      let v = happens f answer w e.0 e.1 in
      let later : suc n + length es ≡ n + suc (length es) = omega arith in
      ap (λ rs. lost_at n e.1 ++ rs) (lost_more (suc n) es v ∙ ap (λ k. (report_from f answer (suc n) es v).lost ++ lost_at k x.1) later) ∙ sym (append_assoc (lost_at n e.1) (report_from f answer (suc n) es v).lost (lost_at (n + suc (length es)) x.1))

sent_is : (f : ℕ) (answer : List Command → Answer) (n : ℕ) (es : List (Event Command × Completion)) (w : World Command Answer) → (report_from f answer n es w).sent ≡ (run f answer es w).sent
sent_is f answer n [] w = refl
sent_is f answer n (e ∷ es) w = sent_is f answer (suc n) es (happens f answer w e.0 e.1)

order_is : (f : ℕ) (answer : List Command → Answer) (n : ℕ) (es : List (Event Command × Completion)) (w : World Command Answer) → (report_from f answer n es w).order ≡ (run f answer es w).order
order_is f answer n [] w = refl
order_is f answer n (e ∷ es) w = order_is f answer (suc n) es (happens f answer w e.0 e.1)

counted : (f : ℕ) (answer : List Command → Answer) (n : ℕ) (es : List (Event Command × Completion)) (w : World Command Answer) → length (report_from f answer n es w).lengths ≡ length es
counted f answer n [] w = refl
counted f answer n (e ∷ es) w = ap suc (counted f answer (suc n) es (happens f answer w e.0 e.1))

complete_join : (f : ℕ) (answer : List Command → Answer) (es ds : List (Event Command × Completion)) (w : World Command Answer) → AllComplete f answer es w → AllComplete f answer ds (run f answer es w) → AllComplete f answer (es ++ ds) w
complete_join f answer [] ds w a b = b
complete_join f answer (e ∷ es) ds w a b = (a.0, complete_join f answer es ds (happens f answer w e.0 e.1) a.1 b)

refused_none : (e : ℕ) (r : Option Reason) (rest : Option (ℕ × Reason)) → refused_at e r rest ≡ None → (r ≡ None) × (rest ≡ None)
refused_none e None rest k = (refl, k)
refused_none e (Some reason) rest k = absurd (cc)

-- after events that each have a step, the first refusal is that of the rest
refusal_join : (f : ℕ) (answer : List Command → Answer) (n : ℕ) (es ds : List (Event Command × Completion)) (w : World Command Answer) → first_refusal f answer n es w ≡ None
    → first_refusal f answer n (es ++ ds) w ≡ first_refusal f answer (n + length es) ds (run f answer es w)
refusal_join f answer n [] ds w k = ap (λ m. first_refusal f answer m ds w) (omega arith)
refusal_join f answer n (e ∷ es) ds w k =
    let v = happens f answer w e.0 e.1 in
    let parts = refused_none n (refusal f w e.0) (first_refusal f answer (suc n) es v) k in
    let later : suc n + length es ≡ n + suc (length es) = omega arith in
    ap (λ r. refused_at n r (first_refusal f answer (suc n) (es ++ ds) v)) parts.0 ∙ refusal_join f answer (suc n) es ds v parts.1 ∙ ap (λ m. first_refusal f answer m ds (run f answer es v)) later

all_done_complete : (f : ℕ) (answer : List Command → Answer) (es : List (Event Command)) (w : World Command Answer) → AllComplete f answer (all_done es) w
all_done_complete f answer [] w = tt
all_done_complete f answer (e ∷ es) w = (tt, all_done_complete f answer es (happens f answer w e Done))

all_done_own : (es : List (Event Command)) → map (λ e. e.0) (all_done es) ≡ es
all_done_own [] = refl
all_done_own (e ∷ es) = ap (λ xs. e ∷ xs) (all_done_own es)

-- ---- what the laws give of each run

-- what was some replica's log stays so, whatever comes
was_still : (f : ℕ) (answer : List Command → Answer) (es more : List (Event Command × Completion)) (view : ℕ) (log : List (Request Command)) → WasLogOf f answer es view log → WasLogOf f answer (es ++ more) view log
was_still f answer es more view log k = record {
  moment = min k.moment (length es);
  replica = k.replica;
  normal = subst (λ (v : World Command Answer). is_normal (v.replicas k.replica).status ≡ true) same k.normal;
  view_is = subst (λ (v : World Command Answer). (v.replicas k.replica).view ≡ view) same k.view_is;
  log_is = subst (λ (v : World Command Answer). (v.replicas k.replica).log ≡ log) same k.log_is;
}
  where
    cut : {X : Type 0} (n : ℕ) (xs ys : List X) → take n xs ≡ take (min n (length xs)) (xs ++ ys)
    cut zero xs ys = let z : min 0 (length xs) ≡ 0 = omega arith in ap (λ k. take k (xs ++ ys)) (sym z)
    cut (suc n) [] ys = let z : min (suc n) 0 ≡ 0 = omega arith in ap (λ k. take k ys) (sym z)
    cut (suc n) (x ∷ xs) ys = let z : min (suc n) (suc (length xs)) ≡ suc (min n (length xs)) = omega arith in ap (λ zs. x ∷ zs) (cut n xs ys) ∙ ap (λ k. take k (x ∷ (xs ++ ys))) (sym z)

    same : run f answer (take k.moment es) start ≡ run f answer (take (min k.moment (length es)) (es ++ more)) start
    same = ap (λ xs. run f answer xs start) (cut k.moment es more)

take_whole : (es : List (Event Command × Completion)) → take (length es) es ≡ es
take_whole [] = refl
take_whole (e ∷ es) = ap (λ xs. e ∷ xs) (take_whole es)

-- and the log of a replica that is normal at the end is one
was_last : (f : ℕ) (answer : List Command → Answer) (es : List (Event Command × Completion)) (i : ℕ) → is_normal ((run f answer es (start {C = Command} {A = Answer})).replicas i).status ≡ true
    → WasLogOf f answer es ((run f answer es (start {C = Command} {A = Answer})).replicas i).view ((run f answer es (start {C = Command} {A = Answer})).replicas i).log
was_last f answer es i normal =
    let same : run f answer (take (length es) es) (start {C = Command} {A = Answer}) ≡ run f answer es start = ap (λ xs. run f answer xs start) (take_whole es) in
    record {
      moment = length es;
      replica = i;
      normal = ap (λ (v : World Command Answer). is_normal (v.replicas i).status) same ∙ normal;
      view_is = ap (λ (v : World Command Answer). (v.replicas i).view) same;
      log_is = ap (λ (v : World Command Answer). (v.replicas i).log) same;
    }

leads : Laws → (g : Group) (es : List (Event Command × Completion)) (e : Event Command) (c : Completion) → Leads g es (es ++ (e, c) ∷ []) (run g.f g.answer es start) (happens g.f g.answer (run g.f g.answer es start) e c)
leads laws g es e c =
    let w : World Command Answer = run g.f g.answer es start in
    let v : World Command Answer = happens g.f g.answer w e c in
    let next : run g.f g.answer (es ++ (e, c) ∷ []) start ≡ v = run_more g.f g.answer (e, c) es start in
    record {
      grows = subst (λ (z : World Command Answer). IsPrefix w.order z.order) next (laws.one_history g.f g.answer es ((e, c) ∷ [])).grows;
      had = λ i past. (laws.commits g.f g.answer es).had e c i past;
      was = λ i. subst (λ (z : World Command Answer). is_normal (z.replicas i).status ≡ true → WasLogOf g.f g.answer (es ++ (e, c) ∷ []) (z.replicas i).view (z.replicas i).log) next (was_last g.f g.answer (es ++ (e, c) ∷ []) i);
      still = was_still g.f g.answer es ((e, c) ∷ []);
    }

settled : Laws → (g : Group) (es : List (Event Command × Completion)) → IsSettled g es (run g.f g.answer es start)
settled laws g es = record {
  leads = leads laws g es;
  agreed = λ i. subst (λ (xs : List (Event Command × Completion)). IsPrefix (executed ((run g.f g.answer xs start).replicas i)) (run g.f g.answer es (start {C = Command} {A = Answer})).order) (take_whole es) ((laws.one_history g.f g.answer es []).executed (length es) i);
  within = (laws.commits g.f g.answer es).within;
  keeps = laws.keeps_executed g.f g.answer es;
  hands_on = laws.hands_on g.f g.answer es;
}

module _ (IsSavedAs : Program → ℕ → List Command → SavedController → Type 0) {M : Type 0} (StandsFor : M → Membership → ReplicaState Command → Type 0) (g : Group) where
  -- the code has come to the end of these events
  pub record Reached (s : code.World M) (events : List (Event Command × Completion)) : Type 0 where
    pub have_steps : first_refusal g.f g.answer 0 events start ≡ None
    pub complete : AllComplete g.f g.answer events start
    pub shows : Shows IsSavedAs StandsFor g events s (run g.f g.answer events start)
    pub releases : releases_of s.trace.releases.items ≡ (report g.f g.answer events).releases
    pub lengths : s.trace.lengths.items ≡ (report g.f g.answer events).lengths
    pub lost : s.trace.lost.items ≡ (report g.f g.answer events).lost

  reached_more : (s v : code.World M) (es : List (Event Command × Completion)) (e : Event Command) (h : HappenedOn IsSavedAs StandsFor g es s v (run g.f g.answer es start) e) → Reached s es → Reached v (es ++ (e, h.completion) ∷ [])
  reached_more s v es e h k =
      let at : length s.trace.lengths.items ≡ 0 + length es = ap length k.lengths ∙ counted g.f g.answer 0 es start ∙ sym (zero-add (length es)) in
      record {
        have_steps = refusal_join g.f g.answer 0 es ((e, h.completion) ∷ []) start k.have_steps ∙ ap (λ r. refused_at (0 + length es) r None) h.has_step;
        complete = complete_join g.f g.answer es ((e, h.completion) ∷ []) start k.complete (h.complete, tt);
        shows = subst (Shows IsSavedAs StandsFor g (es ++ (e, h.completion) ∷ []) v) (sym (run_more g.f g.answer (e, h.completion) es start)) h.shows;
        releases = h.releases ∙ ap (λ rs. rs ++ released (length s.trace.lengths.items) (run g.f g.answer es start) e) k.releases ∙ ap (λ n. (report g.f g.answer es).releases ++ released n (run g.f g.answer es start) e) at ∙ sym (releases_more g.f g.answer (e, h.completion) 0 es start);
        lengths = h.lengths ∙ ap (λ ls. ls ++ length (happens g.f g.answer (run g.f g.answer es start) e h.completion).order ∷ []) k.lengths ∙ sym (lengths_more g.f g.answer (e, h.completion) 0 es start);
        lost = h.lost ∙ ap (λ ls. ls ++ lost_at (length s.trace.lengths.items) h.completion) k.lost ∙ ap (λ n. (report g.f g.answer es).lost ++ lost_at n h.completion) at ∙ sym (lost_more g.f g.answer (e, h.completion) 0 es start);
      }

-- ---- the loop

-- it has come to the end of the first events of a schedule
pub record IsAt (IsSavedAs : Program → ℕ → List Command → SavedController → Type 0) {M : Type 0} (StandsFor : M → Membership → ReplicaState Command → Type 0) (members : List M) (f : ℕ) (schedule : List WorldEvent) (n : ℕ) (s : code.World M) : Type 0 where
  pub reached : (g : Group) → g.f ≡ f → AreNew StandsFor g members
      → (events : List (Event Command × Completion)) × (map (λ e. e.0) events ≡ events_of (take n schedule)) × Reached IsSavedAs StandsFor g s events

mapped : {X Y : Type 0} (g : X → Y) (xs : List X) (i : ℕ) (y : Y) → slice_get (map g xs) i ≡ Some y → (x : X) × (slice_get xs i ≡ Some x) × (g x ≡ y)
mapped g [] i y e = absurd cc
mapped g (x ∷ xs) zero y e = (x, refl, cc)
mapped g (x ∷ xs) (suc i) y e = mapped g xs i y e

replicated : {X : Type 0} (n : ℕ) (x : X) (i : ℕ) (y : X) → slice_get (replicate n x) i ≡ Some y → x ≡ y
replicated zero x i y e = absurd cc
replicated (suc n) x zero y e = cc
replicated (suc n) x (suc i) y e = replicated n x i y e

-- the code's world before the first event shows that of the definitions
first_shows : (IsSavedAs : Program → ℕ → List Command → SavedController → Type 0) {M : Type 0} (StandsFor : M → Membership → ReplicaState Command → Type 0) (group : Config) (g : Group) (members : List M) (s : code.World M) → IsFirst group members s → g.f ≡ group.f → AreNew StandsFor g members
    → Shows IsSavedAs StandsFor g [] s start
first_shows IsSavedAs {M} StandsFor group g members s k sized all = record {
  config = ap (λ (x : Config). x.f) k.config ∙ sym sized;
  size = ap length k.nodes ∙ length-map members first_node ∙ all.count;
  nodes = λ i n at.
      let x : (m : M) × (slice_get members i ≡ Some m) × (first_node m ≡ n) = mapped first_node members i n (ap (λ xs. slice_get xs i) (sym k.nodes) ∙ at) in
      subst (λ p. NodeShows StandsFor g i p start) x.2 (record { replica = all.each i x.0 x.1; store = refl; failing = refl; used = λ y. refl });
  count = ap length k.clients ∙ length-replicate client_count fresh_client;
  clients = λ c m at. ap client_of (replicated client_count fresh_client c m (ap (λ xs. slice_get xs c) (sym k.clients) ∙ at));
  sent = subst (λ xs. AllStandIn IsSavedAs g [] xs []) (sym k.sent) tt;
  order = ap requests_of (sym k.order);
}

pub first_at : (IsSavedAs : Program → ℕ → List Command → SavedController → Type 0) {M : Type 0} (StandsFor : M → Membership → ReplicaState Command → Type 0) (group : Config) (members : List M) (schedule : List WorldEvent) (s : code.World M) → IsFirst group members s
    → IsAt IsSavedAs StandsFor members group.f schedule 0 s
first_at IsSavedAs StandsFor group members schedule s k = record {
  reached = λ g sized all.
      ([], refl, record { have_steps = refl; complete = tt; shows = first_shows IsSavedAs StandsFor group g members s k sized all; releases = ap releases_of k.releases; lengths = k.lengths; lost = k.lost });
}

events_more : (schedule : List WorldEvent) (n : ℕ) (x : WorldEvent) → slice_get schedule n ≡ Some x → events_of (take (n + 1) schedule) ≡ events_of (take n schedule) ++ event_of x ∷ []
events_more schedule n x at =
    let within : n < length schedule = slice_get_within schedule n x at in
    ap events_of (take_more schedule n x within ∙ ap (λ y. take n schedule ++ y ∷ []) (get_or_from_slice_get schedule n x x at)) ∙ map-append event_of (take n schedule) (x ∷ [])

pub next_at : Laws → (IsSavedAs : Program → ℕ → List Command → SavedController → Type 0) {M : Type 0} (StandsFor : M → Membership → ReplicaState Command → Type 0) (f : ℕ) (members : List M) (schedule : List WorldEvent) (n : ℕ) (x d : WorldEvent) (s v : code.World M) (u : Unit {0}) → n < length schedule → x ≡ get_or schedule n d
    → WentOn IsSavedAs StandsFor s v (event_of x) (Ok u) → IsAt IsSavedAs StandsFor members f schedule n s → IsAt IsSavedAs StandsFor members f schedule (n + 1) v
next_at laws IsSavedAs {M} StandsFor f members schedule n x d s v u within is went k = record {
  reached = λ g sized all.
      let at : slice_get schedule n ≡ Some x = slice_get-get_or schedule n d within ∙ ap Some (sym is) in
      let r = k.reached g sized all in
      let h : HappenedOn IsSavedAs StandsFor g r.0 s v (run g.f g.answer r.0 start) (event_of x) = went.went g r.0 (run g.f g.answer r.0 start) r.2.shows (settled laws g r.0) in (
        r.0 ++ (event_of x, h.completion) ∷ [],
        map-append (λ (e : Event Command × Completion). e.0) r.0 ((event_of x, h.completion) ∷ []) ∙ ap (λ es. es ++ event_of x ∷ []) r.1 ∙ sym (events_more schedule n x at),
        reached_more IsSavedAs StandsFor g s v r.0 (event_of x) h r.2,
      );
}

rest_own : (schedule : List WorldEvent) (n : ℕ) (x : WorldEvent) (es : List (Event Command × Completion)) → slice_get schedule n ≡ Some x → map (λ e. e.0) es ≡ events_of (take n schedule)
    → map (λ e. e.0) (es ++ (event_of x, Done) ∷ all_done (events_of (drop (n + 1) schedule))) ≡ events_of schedule
rest_own schedule n x es at own =
    let late : List (Event Command) = events_of (drop (n + 1) schedule) in
    map-append (λ (e : Event Command × Completion). e.0) es ((event_of x, Done) ∷ all_done late)
    ∙ ap (λ xs. xs ++ event_of x ∷ map (λ (e : Event Command × Completion). e.0) (all_done late)) own
    ∙ ap (λ xs. events_of (take n schedule) ++ event_of x ∷ xs) (all_done_own late)
    ∙ sym (append_assoc (events_of (take n schedule)) (event_of x ∷ []) late)
    ∙ ap (λ xs. xs ++ late) (sym (events_more schedule n x at))
    ∙ sym (map-append event_of (take (n + 1) schedule) (drop (n + 1) schedule))
    ∙ ap events_of (take-append-drop (n + 1) schedule)

pub fails_at : Laws → (IsSavedAs : Program → ℕ → List Command → SavedController → Type 0) {M : Type 0} (StandsFor : M → Membership → ReplicaState Command → Type 0) (f : ℕ) (members : List M) (schedule : List WorldEvent) (n : ℕ) (x d : WorldEvent) (s v : code.World M) (fault : EventFault) → n < length schedule → x ≡ get_or schedule n d
    → WentOn IsSavedAs StandsFor s v (event_of x) (Err fault) → IsAt IsSavedAs StandsFor members f schedule n s
    → (g : Group) → g.f ≡ f → AreNew StandsFor g members → Fails g schedule (error_at n fault)
fails_at laws IsSavedAs StandsFor f members schedule n x d s v Memory within is went k g sized all = tt
fails_at laws IsSavedAs {M} StandsFor f members schedule n x d s v (Refused reason) within is went k g sized all =
    let at : slice_get schedule n ≡ Some x = slice_get-get_or schedule n d within ∙ ap Some (sym is) in
    let r = k.reached g sized all in
    let w : World Command Answer = run g.f g.answer r.0 start in
    let late : List (Event Command × Completion) = all_done (events_of (drop (n + 1) schedule)) in
    let why : refusal g.f w (event_of x) ≡ Some (reason_of reason) = went.went g r.0 w r.2.shows (settled laws g r.0) in
    let number : 0 + length r.0 ≡ n = omega (arith, length-map r.0 (λ (e : Event Command × Completion). e.0), ap length r.1, length-map (take n schedule) event_of, length-take n schedule) in
    record {
      events = r.0 ++ (event_of x, Done) ∷ late;
      own = rest_own schedule n x r.0 at r.1;
      complete = complete_join g.f g.answer r.0 ((event_of x, Done) ∷ late) start r.2.complete (tt, all_done_complete g.f g.answer (events_of (drop (n + 1) schedule)) (happens g.f g.answer w (event_of x) Done));
      refused = refusal_join g.f g.answer 0 r.0 ((event_of x, Done) ∷ late) start r.2.have_steps ∙ ap (λ q. refused_at (0 + length r.0) q (first_refusal g.f g.answer (suc (0 + length r.0)) late (happens g.f g.answer w (event_of x) Done))) why
          ∙ ap (λ m. Some (m, reason_of reason)) number;
    }

pub traced_at : Laws → (IsSavedAs : Program → ℕ → List Command → SavedController → Type 0) {M : Type 0} (StandsFor : M → Membership → ReplicaState Command → Type 0) (f : ℕ) (members : List M) (schedule : List WorldEvent) (n : ℕ) (s : code.World M) → length schedule ≤ n → IsAt IsSavedAs StandsFor members f schedule n s
    → (g : Group) → g.f ≡ f → AreNew StandsFor g members → IsTraced IsSavedAs g schedule s.trace
traced_at laws IsSavedAs StandsFor f members schedule n s past k g sized all =
    let r = k.reached g sized all in
    let h : Shows IsSavedAs StandsFor g r.0 s (run g.f g.answer r.0 start) = r.2.shows in
    let same_order : requests_of s.trace.order.items ≡ (report g.f g.answer r.0).order = sym h.order ∙ sym (order_is g.f g.answer 0 r.0 start) in
    let same_sent : AllStand IsSavedAs g s.trace.sent.items (report g.f g.answer r.0).sent = subst (AllStand IsSavedAs g s.trace.sent.items) (sym (sent_is g.f g.answer 0 r.0 start)) (all_stand IsSavedAs g r.0 s.trace.sent.items (run g.f g.answer r.0 start).sent h.sent) in
    record {
      events = r.0;
      own = r.1 ∙ ap events_of (take_all n schedule past);
      have_steps = r.2.have_steps;
      complete = r.2.complete;
      is_report = record { order = same_order; lengths = r.2.lengths; releases = r.2.releases; sent = same_sent; lost = r.2.lost };
      explains = laws.explains g.f g.answer r.0;
    }
