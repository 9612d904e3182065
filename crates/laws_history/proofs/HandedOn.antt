-- The log that a NEWSTATE makes is the one of which it carries the end.
use Rattle.std.proofs.Common.{◌≡◌, ℕ, ◌+◌, ◌-◌, ◌<◌, ◌≤◌, Bool, true, false, cond, not, ◌==◌, leb, ltb, ◌&&◌, ◌⊎◌, List, ◌++◌, length, take, drop, arith, refl, sym, ap, ◌∙◌, subst, inl, inr}
use Rattle.std.proofs.lemmas.Grind.{common_steps}
use Rattle.std.proofs.lemmas.Bool.{leb-true, ltb-true, and_parts}
use Rattle.vr_model.specs.Logs.{Request, IsPrefix}
use Rattle.vr_model.specs.Groups.{group_size, client_count, primary}
use Rattle.vr_model.specs.Messages.{Party, Replica, Client, NewState}
use Rattle.vr_model.specs.Replicas.{ReplicaState, Outcome, is_normal}
use Rattle.vr_model.specs.Rules.{behind, is_backup_in, on_new_state, receives}
use Rattle.vr_model.specs.World.{World, Event, Completion, run, start}
use Rattle.vr_model.specs.Views.{world}
use Rattle.vr_model.specs.Agreement.{NewStatesHandLogsOn}
use Rattle.laws_history.proofs.History.{History, IsSound}
use Rattle.laws_history.proofs.Facts.{PartSays, NormalOk, ReplicaOk}
use Rattle.laws_history.proofs.Prefixes.{prefix_trans, prefix_take}
use Rattle.laws_history.proofs.Committed.{committed_less, committed_same}
use Rattle.laws_history.proofs.Backups.{backup_is}
use Rattle.laws_history.proofs.StateTransfer.{Behind, behind_is, joined}
use Rattle.laws_history.proofs.Worlds.{WorldOk}
use Rattle.laws_history.proofs.Events.{said}
use Rattle.laws_history.proofs.Runs.{Always, start_ok, base_of}
use Rattle.laws_history.proofs.CarriedOver.{Since, since, up_normal}

-- the rule makes this log, or changes nothing
abbrev Makes : {C A : Type 0} → ReplicaState C → List (Request C) → Outcome C A → Type 0
Makes r whole o = (o.replica ≡ r) ⊎ (o.replica.log ≡ whole)

makes_if : {C A : Type 0} (r : ReplicaState C) (whole : List (Request C)) (b : Bool) (x y : Outcome C A) → (b ≡ true → Makes r whole x) → (b ≡ false → Makes r whole y) → Makes r whole (cond b x y)
makes_if r whole true x y first second = first refl
makes_if r whole false x y first second = second refl

-- what it makes is its view's log, up to where the message ends
new_state_makes : {C A : Type 0} (f i : ℕ) (answer : List C → A) (h : History (Request C)) (r : ReplicaState C) (u p c : ℕ) (part : List (Request C))
    → IsSound f h → ReplicaOk f h i r → PartSays f h u p c part → Makes r (take p (h.log u) ++ part) (on_new_state f i answer r u p c part)
new_state_makes {C} {A} f i answer h r u p c part sound ok says =
    makes_if r (take p (h.log u) ++ part) (is_backup_in f i answer r u) _ _
    (λ e. makes_if r (take p (h.log u) ++ part) (leb p (length r.log) && ltb (length r.log) (p + length part)) _ _
    (λ a. let q = and_parts (leb p (length r.log)) (ltb (length r.log) (p + length part)) a in
    inr (extends (backup_is f i answer r u e) (leb-true _ _ q.0) (ltb-true _ _ q.1)))
    (λ a. inl refl))
    (λ e. makes_if r (take p (h.log u) ++ part) (behind f i answer r u && (leb p r.commit_number && leb r.commit_number (p + length part))) _ _
    (λ a. let q = and_parts (behind f i answer r u) (leb p r.commit_number && leb r.commit_number (p + length part)) a in
    let w = and_parts (leb p r.commit_number) (leb r.commit_number (p + length part)) q.1 in
    inr (adopts (behind_is f i answer h r u sound ok q.0) (leb-true _ _ w.0)))
    (λ a. inl refl))
  where
    extends : (is_normal r.status ≡ true) × (r.view ≡ u) × (primary f r.view ≡ i → ⊥) → p ≤ length r.log → length r.log < p + length part → r.log ++ drop (length r.log - p) part ≡ take p (h.log u) ++ part
    extends b l m =
        let n : NormalOk f h i r = ok.normal b.0 in
        joined r.log (h.log u) part p (subst (λ v. IsPrefix r.log (h.log v)) b.1 n.stands.log.within) l (omega arith) says.log.within

    adopts : Behind f h i r u → p ≤ r.commit_number → take p r.log ++ part ≡ take p (h.log u) ++ part
    adopts b l =
        let stands = b.up.stands in
        let mine : take p r.log ≡ take p (h.log r.last_normal_view) = sym (prefix_take p stands.log.within (omega (arith, stands.executed))) in
        let same : take p (h.log r.last_normal_view) ≡ take p (h.log u) = committed_same f h r.last_normal_view u p sound (omega (arith, b.last)) says.log.started (committed_less f h r.last_normal_view r.commit_number p l stands.commit) in
        ap (λ x. x ++ part) (mine ∙ same)

take_drop : {X : Type 0} (n : ℕ) (xs : List X) → take n xs ++ drop n xs ≡ xs
take_drop n xs = grind (arith, common_steps)

pub new_states_hand_logs_on : {C A : Type 0} (f : ℕ) (answer : List C → A) (events : List (Event C × Completion)) → NewStatesHandLogsOn f answer events
new_states_hand_logs_on {C} {A} f answer events i n view p c from whole up is within was = by from (said f answer h w.sent n _ k.sent is)
  where
    at : Since f answer Always (run f answer (take was.moment events) (start {C = C} {A = A})) (world f answer events)
    at = since f answer events start was.moment (start_ok f answer) (λ d j v x. tt)

    w : World C A
    w = world f answer events

    k : WorldOk f answer (base_of at.early) Always w
    k = at.late

    h : History (Request C)
    h = k.history

    r : ReplicaState C
    r = w.replicas i

    s : ReplicaState C
    s = (run f answer (take was.moment events) (start {C = C} {A = A})).replicas was.replica

    normal : NormalOk f at.early.history was.replica s
    normal = let ok = at.early.replicas was.replica (up_normal s.status was.normal) in ok.normal was.normal

    begins : IsPrefix whole (h.log view)
    begins = prefix_trans (subst (λ xs. IsPrefix xs (at.early.history.log view)) was.log_is (subst (λ v. IsPrefix s.log (at.early.history.log v)) was.view_is normal.stands.log.within)) (k.later.log view)

    is_whole : take p (h.log view) ++ drop p whole ≡ whole
    is_whole = ap (λ xs. xs ++ drop p whole) (prefix_take p begins within) ∙ take_drop p whole

    makes : PartSays f h view p c (drop p whole) → Makes r whole (on_new_state f i answer r view p c (drop p whole))
    makes says = subst (λ xs. Makes r xs (on_new_state f i answer r view p c (drop p whole))) is_whole (new_state_makes f i answer h r view p c (drop p whole) k.sound (k.replicas i up) says)

    by : (q : Party) → PartSays f h view p c (drop p whole) → Makes r whole (receives f i answer r q (NewState view p c (drop p whole)))
    by (Replica t) says = makes_if r whole (ltb t (group_size f) && not (t == i)) _ _ (λ e. makes says) (λ e. inl refl)
    by (Client d) says = makes_if r whole (ltb d client_count) _ _ (λ e. inl refl) (λ e. inl refl)
