-- What could be committed in a view is a prefix of the first log of each later one, in a run.
use Rattle.std.proofs.Common.{◌≡◌, ℕ, zero, suc, ◌<◌, ◌≤◌, true, false, leb, List, [], ◌∷◌, length, take, arith, refl, sym, ap, ◌∙◌, subst, inl, inr}
use Rattle.std.proofs.lemmas.Bool.{le-leb, or_left, or_right, cases_lt}
use Rattle.vr_model.specs.Logs.{Request, IsPrefix}
use Rattle.vr_model.specs.Groups.{group_size, primary}
use Rattle.vr_model.specs.Messages.{number_of}
use Rattle.vr_model.specs.Replicas.{is_normal, is_down, takes_part, Status, Normal, ViewChange, Recovering, Down, ReplicaState}
use Rattle.vr_model.specs.World.{World, Event, Completion, happens, run, start}
use Rattle.vr_model.specs.Views.{IsStarted, IsNormalAbove, WasNormalAbove, HasAccepted, Holds, Acknowledged, HasLeft, Sent, Became, CouldBeCommitted, world}
use Rattle.laws_history.proofs.History.{History, could_hold, CouldBeChosen, IsCarried}
use Rattle.laws_history.proofs.Facts.{LogSays, NormalOk}
use Rattle.laws_history.proofs.Counts.{fewer}
use Rattle.laws_history.proofs.Prefixes.{take_all, prefix_length, prefix_trans, prefix_take, prefix_is, take_prefix}
use Rattle.laws_history.proofs.Worlds.{Base, WorldOk}
use Rattle.laws_history.proofs.Events.{happens_ok, said}
use Rattle.laws_history.proofs.Runs.{Covers, run_ok, start_ok, first_base, base_of, from_here}

-- what holds at a moment of the run, and at its end since that moment
pub record Since {C A : Type 0} (f : ℕ) (answer : List C → A) (was : ℕ → ℕ → Type 0) (v w : World C A) : Type 0 where
  pub base : Base C
  pub early : WorldOk f answer base was v
  pub late : WorldOk f answer (base_of early) was w

pub since : {C A : Type 0} (f : ℕ) (answer : List C → A) {base : Base C} {was : ℕ → ℕ → Type 0} (es : List (Event C × Completion)) (w : World C A) (i : ℕ)
    → WorldOk f answer base was w → Covers f answer was es w → Since f answer was (run f answer (take i es) w) (run f answer es w)
since f answer {base} es w zero k covers = record { base = base; early = k; late = run_ok f answer w es (from_here f answer w k) covers }
since f answer {base} [] w (suc i) k covers = record { base = base; early = k; late = from_here f answer w k }
since f answer (x ∷ xs) w (suc i) k covers = since f answer xs (happens f answer w x.0 x.1) i (happens_ok f answer w x.0 x.1 k (covers zero)) (λ d. covers (suc d))

pub up_normal : (s : Status) → is_normal s ≡ true → is_down s ≡ false
up_normal Normal e = refl
up_normal ViewChange e = absurd cc
up_normal Recovering e = absurd cc
up_normal Down e = absurd cc

pub up_part : (s : Status) → takes_part s ≡ true → is_down s ≡ false
up_part Normal e = refl
up_part ViewChange e = refl
up_part Recovering e = absurd cc
up_part Down e = absurd cc

-- a list that begins another, as far as a third one goes too
within : {X : Type 0} (log first xs ys : List X) → IsPrefix log xs → IsPrefix first ys → length log ≤ length first → take (length log) xs ≡ take (length log) ys → IsPrefix log first
within log first xs ys a b l same =
    let e : take (length log) first ≡ log = sym (prefix_take (length log) b l) ∙ sym same ∙ prefix_is a in
    subst (λ (z : List _). IsPrefix z first) e (take_prefix (length log) first)

pub carried_over : {C A : Type 0} (f : ℕ) (answer : List C → A) (events : List (Event C × Completion)) (later view : ℕ) (log : List (Request C)) → view < later
    → (s : IsStarted (world f answer events).sent later) → CouldBeCommitted f answer events view log → IsPrefix log s.first_log
carried_over {C} {A} f answer events later view log below s could =
    let c : IsCarried h view later (length log) = n.sound.carried later view (length log) says.log.started below chosen in
    within log s.first_log (h.log view) (h.log later) begins says.log.within (omega (arith, c.first, says.first)) c.same
  where
    was : ℕ → ℕ → Type 0
    was = WasNormalAbove f answer events

    at : Since f answer was (run f answer (take could.prefix.moment events) (start {C = C} {A = A})) (world f answer events)
    at = since f answer events start could.prefix.moment (start_ok f answer) (λ d j v x. record { moment = d; was = x })

    n : WorldOk f answer (base_of at.early) was (world f answer events)
    n = at.late

    h : History (Request C)
    h = n.history

    says : LogSays f h (number_of s.from) later s.commit_number s.first_log
    says = said f answer h (world f answer events).sent s.place _ n.sent s.is

    r : ReplicaState C
    r = (run f answer (take could.prefix.moment events) (start {C = C} {A = A})).replicas (primary f view)

    normal : NormalOk f at.early.history (primary f view) r
    normal = let ok = at.early.replicas (primary f view) (up_normal r.status could.prefix.normal) in ok.normal could.prefix.normal

    begun : at.early.history.started view ≡ true
    begun = subst (λ v. at.early.history.started v ≡ true) could.prefix.view_is normal.stands.log.started

    begins : IsPrefix log (h.log view)
    begins = prefix_trans could.prefix.holds
        (subst (λ xs. IsPrefix xs (h.log view)) (sym (normal.leads (ap (primary f) could.prefix.view_is) ∙ ap at.early.history.log could.prefix.view_is)) (n.later.log view))

    could_hold_it : (i : ℕ) → i < group_size f → could.who i ≡ true → could_hold h view (length log) i ≡ true
    could_hold_it i l e = elim (could.each i l e) [
      | inl accepted ↦ or_left (leb (length log) (h.accepted i view)) (leb (h.left i) view) (le-leb (length log) (h.accepted i view) (holds accepted))
      | inr stays ↦ or_right (leb (length log) (h.accepted i view)) (leb (h.left i) view) (le-leb (h.left i) view (not_left stays))
    ]
      where
        holds : HasAccepted f answer events view log i → length log ≤ h.accepted i view
        holds (Holds leads x) = let k : h.accepted i view ≡ h.accepted (primary f view) view = ap (λ j. h.accepted j view) leads in
            omega (arith, n.sound.leads view (n.later.started view begun), prefix_length begins)
        holds (Acknowledged a) = let p : a.op_number ≤ h.accepted i view = said f answer h (world f answer events).sent a.place _ n.sent a.is in omega (arith, a.reaches)

        not_left : (HasLeft f answer events view i → ⊥) → h.left i ≤ view
        not_left stays = elim (cases_lt view (h.left i)) [
          | inr le ↦ le
          | inl gone ↦ absurd (elim (n.left i view gone) [
            | inl sent ↦ stays (Sent sent)
            | inr p ↦ elim p [
              | inl past ↦ stays (Became past)
              | inr now ↦ stays (Became (record { moment = length events; was = subst (λ es. IsNormalAbove ((run f answer es (start {C = C} {A = A})).replicas i) view) (sym (take_all events)) now }))
            ]
          ])
        ]

    chosen : CouldBeChosen f h view (length log)
    chosen = omega (arith, could.quorum, fewer could.who (could_hold h view (length log)) (group_size f) could_hold_it)

-- a normal replica goes on from a view that was started
pub goes_on : {C A : Type 0} (f : ℕ) (answer : List C → A) (events : List (Event C × Completion)) (i : ℕ) → 0 < f
    → is_normal ((world f answer events).replicas i).status ≡ true → 0 < ((world f answer events).replicas i).view
    → (s : IsStarted (world f answer events).sent ((world f answer events).replicas i).view) × IsPrefix s.first_log ((world f answer events).replicas i).log
goes_on {C} {A} f answer events i more e above = elim (n.started r.view normal.stands.log.started) [
  | inl none ↦ absurd (omega arith)
  | inr sent ↦ let s = sent more in
      let says : LogSays f n.history (number_of s.from) r.view s.commit_number s.first_log = said f answer n.history w.sent s.place _ n.sent s.is in
      (s, within s.first_log r.log (n.history.log r.view) (n.history.log r.view) says.log.within normal.stands.log.within (omega (arith, says.first, normal.stands.log.whole)) refl)
]
  where
    w : World C A
    w = world f answer events

    r : ReplicaState C
    r = w.replicas i

    n : WorldOk f answer first_base (WasNormalAbove f answer events) w
    n = run_ok f answer start events (start_ok f answer) (λ d j v x. record { moment = d; was = x })

    normal : NormalOk f n.history i r
    normal = let ok = n.replicas i (up_normal r.status e) in ok.normal e

-- two first logs of a view are the same
pub one_first : {C A : Type 0} (f : ℕ) (answer : List C → A) (events : List (Event C × Completion)) (view : ℕ) (s t : IsStarted (world f answer events).sent view) → s.first_log ≡ t.first_log
one_first {C} {A} f answer events view s t =
    let a : LogSays f n.history (number_of s.from) view s.commit_number s.first_log = said f answer n.history w.sent s.place _ n.sent s.is in
    let b : LogSays f n.history (number_of t.from) view t.commit_number t.first_log = said f answer n.history w.sent t.place _ n.sent t.is in
    sym (prefix_is a.log.within) ∙ ap (λ k. take k (n.history.log view)) (sym a.first ∙ b.first) ∙ prefix_is b.log.within
  where
    w : World C A
    w = world f answer events

    n : WorldOk f answer first_base (WasNormalAbove f answer events) w
    n = run_ok f answer start events (start_ok f answer) (λ d j v x. record { moment = d; was = x })
