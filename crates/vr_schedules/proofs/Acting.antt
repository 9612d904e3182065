-- An event that is a replica's: what its rules give is what the event leaves.
use Rattle.std.proofs.Common.{◌≡◌, ℕ, ◌<◌, List, [], ◌∷◌, ◌++◌, length, take, Option, Some, None, Ok, Err, Result, Bool, true, false, refl, sym, ap, ◌∙◌, subst, append-nil}
use Rattle.std.proofs.lemmas.Bool.{lt-ltb}
use Rattle.il_model.specs.declared.command.Command.{Command}
use Rattle.il_model.specs.declared.command.Answer.{Answer}
use Rattle.il_model.specs.Snapshots.{SavedController}
use Rattle.il_model.specs.Program.{Program}
use Rattle.vr_model.specs.declared.event.Event as taken
use Rattle.vr_model.specs.Logs.{IsPrefix}
use Rattle.vr_model.specs.Groups.{group_size}
use Rattle.vr_model.specs.Replicas.{ReplicaState, Outcome, is_down, is_normal}
use Rattle.vr_model.specs.Rules.{keep}
use Rattle.vr_model.specs.World.{World, Event, Completion, Done, Lost, ending_of, effect, executed, longer, does, if_up, steps, refusal, happens}
use Rattle.vr_model.specs.Views.{WasLogOf}
use Rattle.vr_model.specs.Report.{released, outcome_at, outcome_unless_down, Completes}
use Rattle.vr_model.specs.Steps.{Input, acts, by_rule}
use Rattle.vr_schedules.proofs.Tables.{put_cases}
use Rattle.vr_schedules.specs.declared.world.World as code
use Rattle.vr_schedules.specs.declared.fault.EventFault.{EventFault}
use Rattle.vr_schedules.specs.declared.fault.EventFault.TheVariants.{Refused, Memory}
use Rattle.vr_model.specs.Membership.{Group, Membership, member}
use Rattle.vr_schedules.specs.Handed.{AllStandIn}
use Rattle.vr_schedules.specs.Members.{Acts, IsTaken, KeepsExecuted, FitsTaken, MayEnd}
use Rattle.vr_schedules.specs.Standing.{Shows, Leads, IsSettled, Happened, Acted, Went, WentAt, releases_of}
use Rattle.vr_schedules.proofs.Lists.{stays}
use Rattle.vr_schedules.proofs.Shown.{node_same}

-- the event is replica i's, which takes this up
pub record IsActing (f : ℕ) (answer : List Command → Answer) (w : World Command Answer) (e : Event Command) (i : ℕ) (input : Input Command Answer) : Type 0 where
  pub within : i < group_size f
  pub has_step : refusal f w e ≡ None
  pub releases : (n : ℕ) → released n w e ≡ []
  pub outcome : outcome_at f answer w e ≡ outcome_unless_down w i (by_rule f i answer (w.replicas i) input)
  pub steps : (c : Completion) → steps f answer w e c ≡ if_up f answer w i (does f answer w i (by_rule f i answer (w.replicas i) input) c)

-- and by the code's event, which it may take up
pub record IsTaking (IsSavedAs : Program → ℕ → List Command → SavedController → Type 0) (g : Group) (w : World Command Answer) (e : Event Command) (i : ℕ) (event : taken.Event) : Type 0 where
  pub input : Input Command Answer
  pub acting : IsActing g.f g.answer w e i input
  pub taken : IsTaken IsSavedAs (member g i) event (Acts input)
  pub keeps : KeepsExecuted (member g i) (w.replicas i) (Acts input)
  pub fits : FitsTaken IsSavedAs (member g i) (w.replicas i) event (Acts input)

-- a replica that is down loses nothing
nothing_lost : (f i : ℕ) (answer : List Command → Answer) (r : ReplicaState Command) (g : Option Bool) (c : Completion) → MayEnd r (keep f i answer r) g c → c ≡ Done
nothing_lost f i answer r g Done k = refl
nothing_lost f i answer r g (Lost saved) k = absurd (k.0 refl refl)

-- and stays as it is
kept : (f i : ℕ) (answer : List Command → Answer) (r : ReplicaState Command) (stored : ℕ) (c : Completion) (g : Option Bool) → (effect r stored (keep f i answer r) (ending_of c None g)).replica ≡ r
kept f i answer r stored Done g = refl
kept f i answer r stored (Lost false) g = refl
kept f i answer r stored (Lost true) g = refl

is_up : (f : ℕ) (answer : List Command → Answer) (w v : World Command Answer) (i : ℕ) → i < group_size f → is_down (w.replicas i).status ≡ false → if_up f answer w i v ≡ v
is_up f answer w v i l e = rw (e, lt-ltb i (group_size f) l) refl

is_not_up : (f : ℕ) (answer : List Command → Answer) (w v : World Command Answer) (i : ℕ) → is_down (w.replicas i).status ≡ true → if_up f answer w i v ≡ w
is_not_up f answer w v i e = rw e refl

pub happens_is : (f : ℕ) (answer : List Command → Answer) (w : World Command Answer) (e : Event Command) (c : Completion) → refusal f w e ≡ None → happens f answer w e c ≡ steps f answer w e c
happens_is f answer w e c k = rw k refl

acts_up : (f i : ℕ) (answer : List Command → Answer) (r : ReplicaState Command) (input : Input Command Answer) → is_down r.status ≡ false → acts f i answer r input ≡ by_rule f i answer r input
acts_up f i answer r input e = rw e refl

acts_down : (f i : ℕ) (answer : List Command → Answer) (r : ReplicaState Command) (input : Input Command Answer) → is_down r.status ≡ true → acts f i answer r input ≡ keep f i answer r
acts_down f i answer r input e = rw e refl

pub completes : (f : ℕ) (answer : List Command → Answer) (w : World Command Answer) (e : Event Command) (i : ℕ) (o : Outcome Command Answer) (c : Completion) → outcome_at f answer w e ≡ Some (i, o) → MayEnd (w.replicas i) o (w.failing i) c → Completes f answer w e c
completes f answer w e i o Done is k = tt
completes f answer w e i o (Lost saved) is k = record { replica = i; outcome = o; outcome_is = is; changes = k.0; saves = k.1 }

unless_up : (w : World Command Answer) (i : ℕ) (o : Outcome Command Answer) → is_down (w.replicas i).status ≡ false → outcome_unless_down w i o ≡ Some (i, o)
unless_up w i o e = rw e refl

-- what leads to a world leads to each with the same replicas and the same committed list
leads_same : (g : Group) (past later : List (Event Command × Completion)) (w v u : World Command Answer) → ((j : ℕ) → v.replicas j ≡ u.replicas j) → v.order ≡ u.order → Leads g past later w v → Leads g past later w u
leads_same g past later w v u same order k = record {
  grows = subst (IsPrefix w.order) order k.grows;
  had = λ i. subst (λ (r : ReplicaState Command). length w.order < r.commit_number → u.order ≡ take r.commit_number (w.replicas i).log) (same i) (λ past. sym order ∙ k.had i past);
  was = λ i. subst (λ (r : ReplicaState Command). is_normal r.status ≡ true → WasLogOf g.f g.answer later r.view r.log) (same i) (k.was i);
  still = k.still;
}

module _ (IsSavedAs : Program → ℕ → List Command → SavedController → Type 0) {M : Type 0} (StandsFor : M → Membership → ReplicaState Command → Type 0) where
  -- what shows a world shows each that is the same point by point
  pub shows_same : (g : Group) (past : List (Event Command × Completion)) (s : code.World M) (w v : World Command Answer) → ((j : ℕ) → w.replicas j ≡ v.replicas j) → ((j : ℕ) → w.stores j ≡ v.stores j) → ((j : ℕ) → w.failing j ≡ v.failing j)
      → ((j x : ℕ) → w.used j x ≡ v.used j x) → ((c : ℕ) → w.clients c ≡ v.clients c) → w.sent ≡ v.sent → w.order ≡ v.order → Shows IsSavedAs StandsFor g past s w → Shows IsSavedAs StandsFor g past s v
  shows_same g past s w v a b c d e sent k h = record {
    config = h.config;
    size = h.size;
    nodes = λ i n at. node_same StandsFor g i n w v (a i) (b i) (c i) (d i) (h.nodes i n at);
    count = h.count;
    clients = λ i n at. sym (e i) ∙ h.clients i n at;
    sent = subst (AllStandIn IsSavedAs g past s.trace.sent.items) sent h.sent;
    order = sym k ∙ h.order;
  }

  -- a replica that is down did nothing
  shows_kept : (g : Group) (past : List (Event Command × Completion)) (s : code.World M) (w : World Command Answer) (i : ℕ) → IsPrefix (executed (w.replicas i)) w.order
      → Shows IsSavedAs StandsFor g past s (does g.f g.answer w i (keep g.f i g.answer (w.replicas i)) Done) → Shows IsSavedAs StandsFor g past s w
  shows_kept g past s w i k h = shows_same g past s (does g.f g.answer w i (keep g.f i g.answer (w.replicas i)) Done) w
      (λ j. put_cases w.replicas i (w.replicas i) j (λ r. r ≡ w.replicas j) (λ e. ap w.replicas (sym e)) (λ ne. refl))
      (λ j. put_cases w.stores i (w.stores i) j (λ r. r ≡ w.stores j) (λ e. ap w.stores (sym e)) (λ ne. refl))
      (λ j. refl) (λ j x. refl) (λ c. refl) (append-nil w.sent) (stays w.order (executed (w.replicas i)) k) h

  -- the world goes on by the replica's step as by the event
  acting_leads : (g : Group) (past : List (Event Command × Completion)) (w : World Command Answer) (e : Event Command) (i : ℕ) (input : Input Command Answer) → IsActing g.f g.answer w e i input → IsSettled g past w
      → (c : Completion) → Leads g past (past ++ (e, c) ∷ []) w (does g.f g.answer w i (acts g.f i g.answer (w.replicas i) input) c)
  acting_leads g past w e i input k settled c = go (is_down (w.replicas i).status) refl
    where
      go : (b : Bool) → is_down (w.replicas i).status ≡ b → Leads g past (past ++ (e, c) ∷ []) w (does g.f g.answer w i (acts g.f i g.answer (w.replicas i) input) c)
      go true down = subst (λ o. Leads g past (past ++ (e, c) ∷ []) w (does g.f g.answer w i o c)) (sym (acts_down g.f i g.answer (w.replicas i) input down))
          (let same = kept g.f i g.answer (w.replicas i) (w.stores i) c (w.failing i) in
          leads_same g past (past ++ (e, c) ∷ []) w w (does g.f g.answer w i (keep g.f i g.answer (w.replicas i)) c)
          (λ j. sym (put_cases w.replicas i (effect (w.replicas i) (w.stores i) (keep g.f i g.answer (w.replicas i)) (ending_of c None (w.failing i))).replica j (λ r. r ≡ w.replicas j) (λ here. same ∙ ap w.replicas (sym here)) (λ apart. refl)))
          (sym (ap (λ (r : ReplicaState Command). longer w.order (executed r)) same ∙ stays w.order (executed (w.replicas i)) (settled.agreed i)))
          (subst (Leads g past (past ++ (e, c) ∷ []) w) (happens_is g.f g.answer w e c k.has_step ∙ k.steps c ∙ is_not_up g.f g.answer w _ i down) (settled.leads e c)))
      go false up = subst (λ o. Leads g past (past ++ (e, c) ∷ []) w (does g.f g.answer w i o c)) (sym (acts_up g.f i g.answer (w.replicas i) input up))
          (subst (Leads g past (past ++ (e, c) ∷ []) w) (happens_is g.f g.answer w e c k.has_step ∙ k.steps c ∙ is_up g.f g.answer w _ i k.within up) (settled.leads e c))

  acting_happened : (g : Group) (past : List (Event Command × Completion)) (s v : code.World M) (w : World Command Answer) (e : Event Command) (i : ℕ) (input : Input Command Answer) → IsActing g.f g.answer w e i input → IsSettled g past w
      → Acted IsSavedAs StandsFor g past (λ c. past ++ (e, c) ∷ []) s v w i (acts g.f i g.answer (w.replicas i) input) → Happened IsSavedAs StandsFor g past s v w e
  acting_happened g past s v w e i input k settled a = record {
    completion = a.completion;
    has_step = k.has_step;
    complete = complete (is_down (w.replicas i).status) refl;
    shows = shows (is_down (w.replicas i).status) refl;
    releases = ap releases_of a.releases ∙ sym (append-nil (releases_of s.trace.releases.items)) ∙ ap (λ xs. releases_of s.trace.releases.items ++ xs) (sym (k.releases (length s.trace.lengths.items)));
    lengths = a.lengths;
    lost = a.lost;
  }
    where
      later : List (Event Command × Completion)
      later = past ++ (e, a.completion) ∷ []

      complete : (b : Bool) → is_down (w.replicas i).status ≡ b → Completes g.f g.answer w e a.completion
      complete true down = subst (Completes g.f g.answer w e) (sym (nothing_lost g.f i g.answer (w.replicas i) (w.failing i) a.completion (subst (λ o. MayEnd (w.replicas i) o (w.failing i) a.completion) (acts_down g.f i g.answer (w.replicas i) input down) a.may))) tt
      complete false up = completes g.f g.answer w e i (by_rule g.f i g.answer (w.replicas i) input) a.completion (k.outcome ∙ unless_up w i _ up) (subst (λ o. MayEnd (w.replicas i) o (w.failing i) a.completion) (acts_up g.f i g.answer (w.replicas i) input up) a.may)

      shows : (b : Bool) → is_down (w.replicas i).status ≡ b → Shows IsSavedAs StandsFor g later v (happens g.f g.answer w e a.completion)
      shows true down =
          let same = acts_down g.f i g.answer (w.replicas i) input down in
          let c : a.completion ≡ Done = nothing_lost g.f i g.answer (w.replicas i) (w.failing i) a.completion (subst (λ o. MayEnd (w.replicas i) o (w.failing i) a.completion) same a.may) in
          subst (Shows IsSavedAs StandsFor g later v) (sym (happens_is g.f g.answer w e a.completion k.has_step ∙ k.steps a.completion ∙ is_not_up g.f g.answer w _ i down))
          (shows_kept g later v w i (settled.agreed i) (subst (λ x. Shows IsSavedAs StandsFor g later v (does g.f g.answer w i (keep g.f i g.answer (w.replicas i)) x)) c (subst (λ o. Shows IsSavedAs StandsFor g later v (does g.f g.answer w i o a.completion)) same a.shows)))
      shows false up =
          subst (Shows IsSavedAs StandsFor g later v) (sym (happens_is g.f g.answer w e a.completion k.has_step ∙ k.steps a.completion ∙ is_up g.f g.answer w _ i k.within up))
          (subst (λ o. Shows IsSavedAs StandsFor g later v (does g.f g.answer w i o a.completion)) (acts_up g.f i g.answer (w.replicas i) input up) a.shows)

  -- where the replica's step is the event's, the event happened
  pub acting_went : (s v : code.World M) (e : Event Command) (i : ℕ) (event : taken.Event) (result : Result (Unit {0}) EventFault)
      → ((g : Group) (past : List (Event Command × Completion)) (w : World Command Answer) → Shows IsSavedAs StandsFor g past s w → IsSettled g past w → IsTaking IsSavedAs g w e i event)
      → WentAt IsSavedAs StandsFor s v i event result → Went IsSavedAs StandsFor s v e result
  acting_went s v e i event (Ok u) takes k = record {
    went = λ g past w h settled.
        let a : IsTaking IsSavedAs g w e i event = takes g past w h settled in
        acting_happened g past s v w e i a.input a.acting settled
        (k.went g past w (Acts a.input) (λ c. past ++ (e, c) ∷ []) h (settled.agreed i) (settled.within i) (acting_leads g past w e i a.input a.acting settled) a.taken a.keeps a.fits);
  }
  acting_went s v e i event (Err (Refused reason)) takes k = record {
    went = λ g past w h settled.
        let a : IsTaking IsSavedAs g w e i event = takes g past w h settled in
        absurd (let no : Refused reason ≡ Memory = k.went g past w (Acts a.input) (λ c. past ++ (e, c) ∷ []) h (settled.agreed i) (settled.within i) (acting_leads g past w e i a.input a.acting settled) a.taken a.keeps a.fits in cc);
  }
  acting_went s v e i event (Err Memory) takes k = record { went = λ g past w h settled. tt }
