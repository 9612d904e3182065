-- From what the rules make of an event to what a step owes.
use Rattle.std.proofs.Common.{◌≡◌, ℕ, ◌<◌, ◌≤◌, Bool, true, false, cond, Option, Some, None, Ok, Err, Vec, Global, arith, refl, ap, ◌∙◌, sym, subst, inl}
use Rattle.std.specs.declared.alloc.AllocError.{AllocError}
use Rattle.il_model.specs.declared.command.Command.{Command}
use Rattle.il_model.specs.declared.command.Answer.{Answer}
use Rattle.vr_model.specs.declared.event.Event.{Event}
use Rattle.vr_model.specs.declared.event.Event.TheVariants as event
use Rattle.vr_model.specs.declared.event.Stored.{Stored}
use Rattle.vr_model.specs.declared.message.Message as code
use Rattle.vr_model.specs.Logs.{IsPrefix}
use Rattle.vr_model.specs.Membership.{Membership}
use Rattle.vr_model.specs.Replicas.{is_down, is_recovering, ReplicaState, Outcome}
use Rattle.vr_model.specs.Rules.{keep}
use Rattle.vr_model.specs.World.{down, executed}
use Rattle.vr_model.specs.Messages.{Message}
use Rattle.vr_model.specs.StandsFor.{status_of, Stands, Fits}
use Rattle.vr_model.specs.Steps.{Input, Takes, TimesOut, Resends, Matters, acts, by_rule}
use Rattle.vr_core.specs.declared.state.Core.{Core}
use Rattle.vr_core.specs.StandsFor.{StandsForDown, Crashes}
use Rattle.vr_core.specs.StandsFor as core
use Rattle.vr_core.specs.Follows.{AreSaved}
use Rattle.vr_core.proofs.WholeLogs.{is_own_group}
use Rattle.vr_replica.specs.declared.state.Replica.{Replica}
use Rattle.vr_replica.specs.Standing.{StandsFor, IsDown, IsDeafTo}
use Rattle.vr_replica.specs.Ruled.{LeavesFrom, Ruled}
use Rattle.vr_replica.specs.declared.fault.StepFault.TheVariants as fault
use Rattle.vr_replica.specs.Stepped as step
use Rattle.vr_replica.proofs.KeepsLog.{keeps_log}
use Rattle.vr_replica.proofs.NoState.{timeout_sends_none, resend_sends_none}
use Rattle.vr_replica.proofs.Recovering.{has_none_still}
use Rattle.vr_replica.proofs.Sending.{leaves_from}
use Rattle.vr_replica.proofs.StaysUp.{stays_up}

pub at_false : {X : Type 0} (b : Bool) (x y : X) → b ≡ false → cond b x y ≡ y
at_false true x y e = absurd cc
at_false false x y e = refl

-- a replica that is up
pub stands_up : (replica : Replica) (m : Membership) (r : ReplicaState Command) → core.StandsFor replica.core m r → is_down r.status ≡ false → (is_recovering r.status ≡ true → r.commit_number ≡ 0) → StandsFor replica m r
stands_up replica m r st up none = record {
  member = st.member;
  status = st.status;
  commit_number = st.commit_number;
  recovering = none;
  up = λ e. st;
  down = λ e. absurd (let d : true ≡ false = sym e ∙ up in cc);
}

-- and one that is down
pub stands_down : (replica : Replica) (m : Membership) (r : ReplicaState Command) → StandsForDown replica.core m r → StandsFor replica m r
stands_down replica m r st = record {
  member = st.member;
  status = st.status ∙ sym (ap status_of st.core_status);
  commit_number = st.commit_number ∙ sym st.core_commit_number;
  recovering = λ e. st.commit_number;
  up = λ e. absurd (let d : true ≡ false = sym (ap is_down st.status) ∙ e in cc);
  down = λ e. st;
}

-- what rose is what was saved
saved_is : (old mid : Core) (saves : Option ℕ) → AreSaved old mid saves → old.stored_view < mid.stored_view → saves ≡ Some mid.stored_view
saved_is old mid None k l = absurd (let e : mid.stored_view ≡ old.stored_view = k in omega arith)
saved_is old mid (Some u) k l = ap (λ v. Some v) (sym k.0)

saved_none : (old mid : Core) (saves : Option ℕ) → AreSaved old mid saves → mid.stored_view ≤ old.stored_view → saves ≡ None
saved_none old mid None k l = refl
saved_none old mid (Some u) k l = absurd (let e : mid.stored_view ≡ u = k.0 in let g : old.stored_view < u = k.1 in omega arith)

module _ {S : Type 0} (load_gives : S → Option Stored → S → Type 0) (save_gives : S → ℕ → Bool → S → Type 0) (old : Core) (m : Membership) (r : ReplicaState Command) (s t : S) (stands : core.StandsFor old m r) (up : is_down r.status ≡ false) (none : is_recovering r.status ≡ true → r.commit_number ≡ 0) where
  by_its_rule : (input : Input Command Answer) → acts m.f m.number m.answer r input ≡ by_rule m.f m.number m.answer r input
  by_its_rule input = at_false (is_down r.status) (keep m.f m.number m.answer r) (by_rule m.f m.number m.answer r input) up

  -- a message that stands for one in this group does so in the core's
  for_own : (a : code.Message) (meant : Message Command Answer) → Stands core.IsSavedAs m.group a meant → Stands core.IsSavedAs (core.own_group old) a meant
  for_own a meant st = subst (λ g. Stands core.IsSavedAs g a meant) (sym (is_own_group old m stands.member)) st

  -- what holds of an outcome that the rules leave
  pub stepped_ok : (NowStands : ReplicaState Command → Type 0) (mid : Core) (sends : Vec code.Message Global) (result : step.StepResult) (e : Event) → Ruled old e mid (Ok sends)
      → ((o : Outcome Command Answer) → LeavesFrom old mid sends.items m o → is_down o.replica.status ≡ false → (is_recovering o.replica.status ≡ true → o.replica.commit_number ≡ 0) → step.Acted load_gives save_gives core.IsSavedAs NowStands m r s t o result)
      → step.Stepped load_gives save_gives core.IsSavedAs NowStands m r s t e result
  stepped_ok NowStands mid sends result (event.Message a) h then = λ meant is keeps fits.
      let o = by_rule m.f m.number m.answer r (Takes meant) in
      let same : acts m.f m.number m.answer r (Takes meant) ≡ o = by_its_rule (Takes meant) in
      subst (λ x. step.Acted load_gives save_gives core.IsSavedAs NowStands m r s t x result) (sym same)
      (then o
      ((h meant (for_own a meant is)).leaves m r stands (keeps_log m.f m.number m.answer r meant.from meant.body none (λ over. subst (λ (x : Outcome Command Answer). IsPrefix (executed r) x.replica.log) same (keeps over))) (subst (λ (x : Outcome Command Answer). Fits core.IsSavedAs m.group r x a.body) same fits))
      (stays_up is_down refl refl m.f m.number m.answer r (Takes meant) up) (has_none_still m.f m.number m.answer r (Takes meant) none))
  stepped_ok NowStands mid sends result event.Timeout h then =
      subst (λ x. step.Acted load_gives save_gives core.IsSavedAs NowStands m r s t x result) (sym (by_its_rule TimesOut))
      (then (by_rule m.f m.number m.answer r TimesOut) (leaves_from old mid sends.items m (by_rule m.f m.number m.answer r TimesOut) (h.leaves m r stands) (timeout_sends_none m.f m.number m.answer r)) (stays_up is_down refl refl m.f m.number m.answer r TimesOut up) (has_none_still m.f m.number m.answer r TimesOut none))
  stepped_ok NowStands mid sends result event.Resend h then =
      subst (λ x. step.Acted load_gives save_gives core.IsSavedAs NowStands m r s t x result) (sym (by_its_rule Resends))
      (then (by_rule m.f m.number m.answer r Resends) (leaves_from old mid sends.items m (by_rule m.f m.number m.answer r Resends) (h.leaves m r stands) (resend_sends_none m.f m.number m.answer r)) (stays_up is_down refl refl m.f m.number m.answer r Resends up) (has_none_still m.f m.number m.answer r Resends none))
  stepped_ok NowStands mid sends result (event.Restart x) h then =
      subst (λ b. step.RestartedIf load_gives save_gives core.IsSavedAs NowStands m r s t b x result) (sym up)
      (then (keep m.f m.number m.answer r) (leaves_from old mid sends.items m (keep m.f m.number m.answer r) (h.leaves m r stands) tt) up none)

  -- what holds of an outcome that is lost
  pub stepped_err : (NowStands : ReplicaState Command → Type 0) (mid : Core) (error : AllocError) (result : step.StepResult) (e : Event) → Ruled old e mid (Err error)
      → ((o : Outcome Command Answer) → Matters r o → core.StandsFor mid m r → step.Acted load_gives save_gives core.IsSavedAs NowStands m r s t o result)
      → step.Stepped load_gives save_gives core.IsSavedAs NowStands m r s t e result
  stepped_err NowStands mid error result (event.Message a) h then = λ meant is keeps fits.
      subst (λ x. step.Acted load_gives save_gives core.IsSavedAs NowStands m r s t x result) (sym (by_its_rule (Takes meant)))
      (then (by_rule m.f m.number m.answer r (Takes meant)) ((h meant (for_own a meant is)).matters m r stands) ((h meant (for_own a meant is)).same m r stands))
  stepped_err NowStands mid error result event.Timeout h then =
      subst (λ x. step.Acted load_gives save_gives core.IsSavedAs NowStands m r s t x result) (sym (by_its_rule TimesOut))
      (then (by_rule m.f m.number m.answer r TimesOut) (h.matters m r stands) (h.same m r stands))
  stepped_err NowStands mid error result event.Resend h then =
      subst (λ x. step.Acted load_gives save_gives core.IsSavedAs NowStands m r s t x result) (sym (by_its_rule Resends))
      (then (by_rule m.f m.number m.answer r Resends) (h.matters m r stands) (h.same m r stands))
  stepped_err NowStands mid error result (event.Restart x) h then =
      subst (λ b. step.RestartedIf load_gives save_gives core.IsSavedAs NowStands m r s t b x result) (sym up)
      (then (keep m.f m.number m.answer r) (h.matters m r stands) (h.same m r stands))

  -- the rule saves nothing
  pub went_on : (new : Replica) (sends : Vec code.Message Global) (e : Event) → Ruled old e new.core (Ok sends) → new.core.stored_view ≤ old.stored_view → t ≡ s
      → step.Stepped load_gives save_gives core.IsSavedAs (StandsFor new m) m r s t e (Ok sends)
  went_on new sends e h l same = stepped_ok (StandsFor new m) new.core sends (Ok sends) e h (λ o k o_up o_none. record {
    replica = stands_up new m o.replica k.replica o_up o_none;
    saved = subst (λ x. step.Saved load_gives save_gives s x t) (sym (saved_none old new.core o.saves k.saves l)) same;
    sends = k.sends;
  })

  -- what the rule saves was saved
  pub was_saved : (new : Replica) (sends : Vec code.Message Global) (e : Event) → Ruled old e new.core (Ok sends) → old.stored_view < new.core.stored_view → save_gives s new.core.stored_view true t
      → step.Stepped load_gives save_gives core.IsSavedAs (StandsFor new m) m r s t e (Ok sends)
  was_saved new sends e h l saved = stepped_ok (StandsFor new m) new.core sends (Ok sends) e h (λ o k o_up o_none. record {
    replica = stands_up new m o.replica k.replica o_up o_none;
    saved = subst (λ x. step.Saved load_gives save_gives s x t) (sym (saved_is old new.core o.saves k.saves l)) saved;
    sends = k.sends;
  })

  -- its save failed
  pub save_failed : (mid new : Replica) (sends : Vec code.Message Global) (e : Event) (result : step.StepResult) → result ≡ Err fault.Store → Ruled old e mid.core (Ok sends) → old.stored_view < mid.core.stored_view
      → save_gives s mid.core.stored_view false t → Crashes mid.core new.core
      → step.Stepped load_gives save_gives core.IsSavedAs (StandsFor new m) m r s t e result
  save_failed mid new sends e result is h l failed crashed = subst (λ x. step.Stepped load_gives save_gives core.IsSavedAs (StandsFor new m) m r s t e x) (sym is)
      (stepped_ok (StandsFor new m) mid.core sends (Err fault.Store) e h (λ o k o_up o_none. record {
        replica = stands_down new m (down r) (crashed.crashes m r k.replica.member);
        view = mid.core.stored_view;
        saves = saved_is old mid.core o.saves k.saves l;
        failed = failed;
      }))

  -- want of memory
  pub was_lost : (new : Replica) (error : AllocError) (e : Event) (result : step.StepResult) → result ≡ Err fault.Memory → Ruled old e new.core (Err error) → t ≡ s
      → step.Stepped load_gives save_gives core.IsSavedAs (StandsFor new m) m r s t e result
  was_lost new error e result is h same = subst (λ x. step.Stepped load_gives save_gives core.IsSavedAs (StandsFor new m) m r s t e x) (sym is)
      (stepped_err (StandsFor new m) new.core error (Err fault.Memory) e h (λ o matters k. record {
        replica = stands_up new m r k up none;
        matters = matters;
        saved = inl same;
      }))

module _ {S : Type 0} (load_gives : S → Option Stored → S → Type 0) (save_gives : S → ℕ → Bool → S → Type 0) (m : Membership) (r : ReplicaState Command) (s : S) (is : is_down r.status ≡ true) where
  -- who is down hears no event but a restart
  pub hears_not : (replica : Replica) (e : Event) → ((x : ℕ) → e ≡ event.Restart x → ⊥) → StandsFor replica m r → step.Stepped load_gives save_gives core.IsSavedAs (StandsFor replica m) m r s s e (Err fault.Down)
  hears_not replica (event.Message a) other st = λ meant means keeps fits. (is, record { replica = st; store = refl })
  hears_not replica event.Timeout other st = (is, record { replica = st; store = refl })
  hears_not replica event.Resend other st = (is, record { replica = st; store = refl })
  hears_not replica (event.Restart x) other st = absurd (other x refl)

  -- and a restart
  pub hears_restart : (replica : Replica) (t : S) (result : step.StepResult) (e : Event) (x : ℕ) → e ≡ event.Restart x → step.Restarted load_gives save_gives core.IsSavedAs (StandsFor replica m) m r s t x result
      → step.Stepped load_gives save_gives core.IsSavedAs (StandsFor replica m) m r s t e result
  hears_restart replica t result e x same h =
      subst (λ y. step.Stepped load_gives save_gives core.IsSavedAs (StandsFor replica m) m r s t y result) (sym same)
      (subst (λ b. step.RestartedIf load_gives save_gives core.IsSavedAs (StandsFor replica m) m r s t b x result) (sym is) h)

-- which events those are
pub deaf_to_all : (replica : Replica) (e : Event) → ((x : ℕ) → e ≡ event.Restart x → ⊥) → IsDown replica → IsDeafTo replica e
deaf_to_all replica (event.Message a) other down = down
deaf_to_all replica event.Timeout other down = down
deaf_to_all replica event.Resend other down = down
deaf_to_all replica (event.Restart x) other down = absurd (other x refl)

pub not_to_restart : (replica : Replica) (e : Event) (x : ℕ) → e ≡ event.Restart x → IsDeafTo replica e → ⊥
not_to_restart replica e x same deaf = subst (IsDeafTo replica) same deaf
