-- A step over a store in memory is a member's step.
use Rattle.std.proofs.Common.{◌≡◌, ℕ, List, [], Option, Some, None, Ok, Err, Bool, true, false, cond, is_some, ◌&&◌, ◌⊎◌, refl, sym, ap, ◌∙◌, subst, inl, inr}
use Rattle.std.specs.declared.alloc.Global.{Global}
use Rattle.std.specs.declared.vec.Vec.{Vec}
use Rattle.il_model.specs.declared.command.Command.{Command}
use Rattle.il_model.specs.declared.command.Answer.{Answer}
use Rattle.vr_model.specs.declared.event.Event.{Event}
use Rattle.vr_model.specs.declared.event.Event.TheVariants as event
use Rattle.vr_model.specs.declared.message.Message as code
use Rattle.vr_model.specs.Membership.{Membership}
use Rattle.vr_model.specs.Replicas.{is_down, ReplicaState, Outcome}
use Rattle.vr_model.specs.Rules.{keep, on_restart}
use Rattle.vr_model.specs.World as world
use Rattle.vr_model.specs.Steps.{Takes, TimesOut, Resends, Matters, acts}
use Rattle.vr_model.specs.StandsFor.{AllStandFrom}
use Rattle.vr_core.specs.StandsFor.{IsSavedAs}
use Rattle.vr_schedules.specs.Members.{Taken, Acts, ComesUp, IsTaken, FitsTaken, Does, by_rules, KeepsExecuted, failing_of, failing_left, MayEnd, is_lost}
use Rattle.vr_replica.specs.declared.fault.StepFault.{StepFault}
use Rattle.vr_replica.specs.declared.fault.StepFault.TheVariants as fault
use Rattle.vr_replica.specs.Stepped as step
use Rattle.vr_world.specs.declared.shelf.Shelf.{Shelf}
use Rattle.vr_world.specs.Shelves.{shelf_loads, shelf_saves}

-- how a step over a store in memory ends
done_ends : (s t : Shelf) (saves : Option ℕ) → step.Saved shelf_loads shelf_saves s saves t → world.ending_of world.Done saves (failing_of s.store) ≡ world.Went world.Done
done_ends s t None k = refl
done_ends s t (Some u) k = ap (λ g. world.ending_of world.Done (Some u) g) (ap (λ x. failing_of (record s.store { failing = x })) k.0)

lost_ends : (s t : Shelf) (saves : Option ℕ) → step.Saved shelf_loads shelf_saves s saves t → world.ending_of (world.Lost true) saves (failing_of s.store) ≡ world.Went (world.Lost true)
lost_ends s t None k = refl
lost_ends s t (Some u) k = ap (λ g. world.ending_of (world.Lost true) (Some u) g) (ap (λ x. failing_of (record s.store { failing = x })) k.0)

saved_not_failing : (s t : Shelf) (saves : Option ℕ) → step.Saved shelf_loads shelf_saves s saves t → (is_some saves && is_some (failing_of s.store)) ≡ false
saved_not_failing s t None k = refl
saved_not_failing s t (Some u) k = ap (λ x. is_some (failing_of (record s.store { failing = x }))) k.0

saved_view_is : (s t : Shelf) (saves : Option ℕ) → step.Saved shelf_loads shelf_saves s saves t → t.store.view ≡ world.saved_view s.store.view saves
saved_view_is s t None k = ap (λ (x : Shelf). x.store.view) k
saved_view_is s t (Some u) k = ap (λ x. x.view) k.1

saved_failing : (s t : Shelf) (saves : Option ℕ) → step.Saved shelf_loads shelf_saves s saves t → failing_of t.store ≡ failing_of s.store
saved_failing s t None k = ap (λ (x : Shelf). failing_of x.store) k
saved_failing s t (Some u) k = ap failing_of k.1

module _ (NowStands : ReplicaState Command → Type 0) (m : Membership) (r : ReplicaState Command) (s t : Shelf) where
  -- where its ending is known, so is what a step does
  ends_so : (o : Outcome Command Answer) (lost : Bool) (out : List code.Message) (c : world.Completion) (e : world.Ending) → world.ending_of c o.saves (failing_of s.store) ≡ e
      → lost ≡ is_lost c → MayEnd r o (failing_of s.store) c
      → NowStands (world.effect r s.store.view o e).replica → t.store.view ≡ (world.effect r s.store.view o e).store → failing_of t.store ≡ failing_left (failing_of s.store) e
      → AllStandFrom IsSavedAs m.group o.replica out (world.effect r s.store.view o e).sends
      → Does IsSavedAs m NowStands r s.store t.store o lost out
  ends_so o lost out c e is tells may replica store failing sends = record {
    completion = c;
    tells = tells;
    may = may;
    replica = subst (λ x. NowStands (world.effect r s.store.view o x).replica) (sym is) replica;
    store = store ∙ ap (λ x. (world.effect r s.store.view o x).store) (sym is);
    failing = failing ∙ ap (failing_left (failing_of s.store)) (sym is);
    sends = subst (λ x. AllStandFrom IsSavedAs m.group o.replica out (world.effect r s.store.view o x).sends) (sym is) sends;
  }

  done : (o : Outcome Command Answer) (out : List code.Message) → step.Done shelf_loads shelf_saves IsSavedAs NowStands m r s t o out → Does IsSavedAs m NowStands r s.store t.store o false out
  done o out k = ends_so o false out world.Done (world.Went world.Done) (done_ends s t o.saves k.saved) refl tt k.replica (saved_view_is s t o.saves k.saved) (saved_failing s t o.saves k.saved) k.sends

  lost : (o : Outcome Command Answer) → step.Lost shelf_loads shelf_saves IsSavedAs NowStands m r s t o → Does IsSavedAs m NowStands r s.store t.store o true []
  lost o k = elim k.saved [
    | inl same ↦ ends_so o true [] (world.Lost false) (world.Went (world.Lost false)) refl refl (k.matters, refl) k.replica (ap (λ (x : Shelf). x.store.view) same) (ap (λ (x : Shelf). failing_of x.store) same) tt
    | inr saved ↦ ends_so o true [] (world.Lost true) (world.Went (world.Lost true)) (lost_ends s t o.saves saved) refl (k.matters, saved_not_failing s t o.saves saved) k.replica (saved_view_is s t o.saves saved) (saved_failing s t o.saves saved) tt
  ]

  save_failed : (o : Outcome Command Answer) → step.SaveFailed shelf_loads shelf_saves IsSavedAs NowStands m r s t o → Does IsSavedAs m NowStands r s.store t.store o false []
  save_failed o k =
      let new : Bool = k.failed.0 in
      let is : world.ending_of world.Done o.saves (failing_of s.store) ≡ world.SaveFailed new = ap (λ x. world.ending_of world.Done x (failing_of s.store)) k.saves ∙ ap (λ g. world.ending_of world.Done (Some k.view) g) k.failed.1 in
      ends_so o false [] world.Done (world.SaveFailed new) is refl tt k.replica
      (ap (λ x. x.view) k.failed.2 ∙ ap (λ x. cond new (world.saved_view s.store.view x) s.store.view) (sym k.saves)) (ap failing_of k.failed.2) tt

  dropped : step.Dropped shelf_loads shelf_saves IsSavedAs NowStands m r s t → Does IsSavedAs m NowStands r s.store t.store (keep m.f m.number m.answer r) false []
  dropped k = ends_so (keep m.f m.number m.answer r) false [] world.Done (world.Went world.Done) refl refl tt k.replica (ap (λ (x : Shelf). x.store.view) k.store) (ap (λ (x : Shelf). failing_of x.store) k.store) tt

  -- the rules of an event are these
  by : (o q : Outcome Command Answer) (lost : Bool) (out : List code.Message) → q ≡ o → Does IsSavedAs m NowStands r s.store t.store o lost out → Does IsSavedAs m NowStands r s.store t.store q lost out
  by o q lost out is k = subst (λ x. Does IsSavedAs m NowStands r s.store t.store x lost out) (sym is) k

  -- a restart, by what the store keeps
  abbrev restarting : ℕ → Outcome Command Answer
  restarting x = on_restart m.f m.number m.answer (record r { stored_view = s.store.view }) x

  comes_up : (x : ℕ) → is_down r.status ≡ true → by_rules m s.store.view r (ComesUp x) ≡ restarting x
  comes_up x down = rw down refl

  stays_up : (x : ℕ) → is_down r.status ≡ false → by_rules m s.store.view r (ComesUp x) ≡ keep m.f m.number m.answer r
  stays_up x up = rw up refl

  -- it always changes something, or sends
  restart_matters : (x : ℕ) → is_down r.status ≡ true → Matters r (restarting x)
  restart_matters x down same none = absurd (let e : false ≡ true = ap (λ (q : ReplicaState Command). is_down q.status) same ∙ down in cc)

  came_up : (x : ℕ) (out : List code.Message) → step.CameUp shelf_loads shelf_saves IsSavedAs NowStands m r s t x out → Does IsSavedAs m NowStands r s.store t.store (restarting x) false out
  came_up x out k =
      let from : ℕ → Outcome Command Answer = λ view. on_restart m.f m.number m.answer (record r { stored_view = view }) x in
      ends_so (from s.store.view) false out world.Done (world.Went world.Done) refl refl tt (subst (λ v. NowStands (from v).replica) k.loaded.0 k.replica) (ap (λ (z : Shelf). z.store.view) k.loaded.1) (ap (λ (z : Shelf). failing_of z.store) k.loaded.1)
      (subst (λ v. AllStandFrom IsSavedAs m.group (from v).replica out (from v).sends) k.loaded.0 k.sends)

  stayed_down : (x : ℕ) → is_down r.status ≡ true → step.StayedDown shelf_loads shelf_saves IsSavedAs NowStands m r s t → Does IsSavedAs m NowStands r s.store t.store (restarting x) true []
  stayed_down x down k = ends_so (restarting x) true [] (world.Lost false) (world.Went (world.Lost false)) refl refl (restart_matters x down, refl) k.replica (ap (λ (z : Shelf). z.store.view) same) (ap (λ (z : Shelf). failing_of z.store) same) tt
    where
      same : t ≡ s
      same = elim k.loaded [ inl e ↦ e | inr l ↦ l.1.1 ]

  restart_went : (x : ℕ) (sends : Vec code.Message Global) (b : Bool) → is_down r.status ≡ b → step.RestartedIf shelf_loads shelf_saves IsSavedAs NowStands m r s t b x (Ok sends) → Does IsSavedAs m NowStands r s.store t.store (by_rules m s.store.view r (ComesUp x)) false sends.items
  restart_went x sends true down k = by (restarting x) _ false sends.items (comes_up x down) (came_up x sends.items k)
  restart_went x sends false up k = by (keep m.f m.number m.answer r) _ false sends.items (stays_up x up) (done (keep m.f m.number m.answer r) sends.items k)

  restart_lost : (x : ℕ) (b : Bool) → is_down r.status ≡ b → step.RestartedIf shelf_loads shelf_saves IsSavedAs NowStands m r s t b x (Err fault.Memory) → Does IsSavedAs m NowStands r s.store t.store (by_rules m s.store.view r (ComesUp x)) true []
  restart_lost x true down k = by (restarting x) _ true [] (comes_up x down) (stayed_down x down k)
  restart_lost x false up k = absurd (k.matters refl refl)

  restart_failed : (x : ℕ) (b : Bool) → is_down r.status ≡ b → step.RestartedIf shelf_loads shelf_saves IsSavedAs NowStands m r s t b x (Err fault.Store) → Does IsSavedAs m NowStands r s.store t.store (by_rules m s.store.view r (ComesUp x)) false []
  restart_failed x true down k = absurd k.failed
  restart_failed x false up k = by (keep m.f m.number m.answer r) _ false [] (stays_up x up) (save_failed (keep m.f m.number m.answer r) k)

  restart_deaf : (x : ℕ) (b : Bool) → is_down r.status ≡ b → step.RestartedIf shelf_loads shelf_saves IsSavedAs NowStands m r s t b x (Err fault.Down) → Does IsSavedAs m NowStands r s.store t.store (by_rules m s.store.view r (ComesUp x)) false []
  restart_deaf x true down k = absurd k
  restart_deaf x false up k = by (keep m.f m.number m.answer r) _ false [] (stays_up x up) (dropped k.1)

  deaf : (o : Outcome Command Answer) → (is_down r.status ≡ true → o ≡ keep m.f m.number m.answer r) → step.Acted shelf_loads shelf_saves IsSavedAs NowStands m r s t o (Err fault.Down) → Does IsSavedAs m NowStands r s.store t.store o false []
  deaf o is k = by (keep m.f m.number m.answer r) o false [] (is k.0) (dropped k.1)

  -- what the step owes for what was taken up
  abbrev Owes : Taken → step.StepResult → Type 0
  Owes (Acts input) result = step.Acted shelf_loads shelf_saves IsSavedAs NowStands m r s t (acts m.f m.number m.answer r input) result
  Owes (ComesUp x) result = step.RestartedIf shelf_loads shelf_saves IsSavedAs NowStands m r s t (is_down r.status) x result

  owes : (e : Event) (x : Taken) (result : step.StepResult) → IsTaken IsSavedAs m e x → KeepsExecuted m r x → FitsTaken IsSavedAs m r e x → step.Stepped shelf_loads shelf_saves IsSavedAs NowStands m r s t e result → Owes x result
  owes (event.Message a) (Acts (Takes meant)) result taken keeps fits k = k meant taken (λ over. keeps) fits
  owes (event.Message a) (Acts TimesOut) result taken keeps fits k = absurd taken
  owes (event.Message a) (Acts Resends) result taken keeps fits k = absurd taken
  owes (event.Message a) (ComesUp x) result taken keeps fits k = absurd taken
  owes event.Timeout (Acts (Takes meant)) result taken keeps fits k = absurd taken
  owes event.Timeout (Acts TimesOut) result taken keeps fits k = k
  owes event.Timeout (Acts Resends) result taken keeps fits k = absurd taken
  owes event.Timeout (ComesUp x) result taken keeps fits k = absurd taken
  owes event.Resend (Acts (Takes meant)) result taken keeps fits k = absurd taken
  owes event.Resend (Acts TimesOut) result taken keeps fits k = absurd taken
  owes event.Resend (Acts Resends) result taken keeps fits k = k
  owes event.Resend (ComesUp x) result taken keeps fits k = absurd taken
  owes (event.Restart y) (Acts (Takes meant)) result taken keeps fits k = absurd taken
  owes (event.Restart y) (Acts TimesOut) result taken keeps fits k = absurd taken
  owes (event.Restart y) (Acts Resends) result taken keeps fits k = absurd taken
  owes (event.Restart y) (ComesUp x) result taken keeps fits k = subst (λ z. step.RestartedIf shelf_loads shelf_saves IsSavedAs NowStands m r s t (is_down r.status) z result) taken k

  went_by : (x : Taken) (sends : Vec code.Message Global) → Owes x (Ok sends) → Does IsSavedAs m NowStands r s.store t.store (by_rules m s.store.view r x) false sends.items
  went_by (Acts input) sends k = done (acts m.f m.number m.answer r input) sends.items k
  went_by (ComesUp x) sends k = restart_went x sends (is_down r.status) refl k

  failed_memory : (x : Taken) → Owes x (Err fault.Memory) → Does IsSavedAs m NowStands r s.store t.store (by_rules m s.store.view r x) true []
  failed_memory (Acts input) k = lost (acts m.f m.number m.answer r input) k
  failed_memory (ComesUp x) k = restart_lost x (is_down r.status) refl k

  failed_store : (x : Taken) → Owes x (Err fault.Store) → Does IsSavedAs m NowStands r s.store t.store (by_rules m s.store.view r x) false []
  failed_store (Acts input) k = save_failed (acts m.f m.number m.answer r input) k
  failed_store (ComesUp x) k = restart_failed x (is_down r.status) refl k

  failed_down : (x : Taken) → Owes x (Err fault.Down) → Does IsSavedAs m NowStands r s.store t.store (by_rules m s.store.view r x) false []
  failed_down (Acts input) k = deaf (acts m.f m.number m.answer r input) (λ down. rw down refl) k
  failed_down (ComesUp x) k = restart_deaf x (is_down r.status) refl k

  -- which fault it was
  told : (x : Taken) (f g : StepFault) → f ≡ g → Owes x (Err f) → Owes x (Err g)
  told x f g same k = subst (λ y. Owes x (Err y)) same k

  module _ (e : Event) (x : Taken) (taken : IsTaken IsSavedAs m e x) (keeps : KeepsExecuted m r x) (fits : FitsTaken IsSavedAs m r e x) where
    pub went : (sends : Vec code.Message Global) → step.Stepped shelf_loads shelf_saves IsSavedAs NowStands m r s t e (Ok sends) → Does IsSavedAs m NowStands r s.store t.store (by_rules m s.store.view r x) false sends.items
    went sends k = went_by x sends (owes e x (Ok sends) taken keeps fits k)

    pub was_lost : (f : StepFault) → f ≡ fault.Memory → step.Stepped shelf_loads shelf_saves IsSavedAs NowStands m r s t e (Err f) → Does IsSavedAs m NowStands r s.store t.store (by_rules m s.store.view r x) true []
    was_lost f is k = failed_memory x (told x f fault.Memory is (owes e x (Err f) taken keeps fits k))

    pub sent_nothing : (f : StepFault) (out : List code.Message) → out ≡ [] → (f ≡ fault.Store) ⊎ (f ≡ fault.Down) → step.Stepped shelf_loads shelf_saves IsSavedAs NowStands m r s t e (Err f)
        → Does IsSavedAs m NowStands r s.store t.store (by_rules m s.store.view r x) false out
    sent_nothing f out none which k = let o = owes e x (Err f) taken keeps fits k in subst (λ y. Does IsSavedAs m NowStands r s.store t.store (by_rules m s.store.view r x) false y) (sym none) (elim which [
      | inl is ↦ failed_store x (told x f fault.Store is o)
      | inr is ↦ failed_down x (told x f fault.Down is o)
    ])
